-- Inversion modulo 2, by induction over the variables, in halves: the sets without and with the topmost variable.
use Rattle.std.proofs.Common.{◌≡◌, ℕ, zero, suc, ◌+◌, ◌-◌, ◌*◌, ◌%◌, ◌^◌, ◌<◌, refl, ap, ◌∙◌, subst, ap₂, inl, inr, add-zero, one-mul, zero-add, zero-mul, mul-add, arith}
use lib.Arith.{lt-one}
use Rattle.std.proofs.lemmas.Bool.{cases_lt}
use Rattle.polynomials.specs.Sums.{total}
use Rattle.polynomials.specs.Monomials.{value}
use Rattle.polynomials.specs.Coefficients.{parts}
use Rattle.polynomials.specs.Laws.{SumsOfPartsInvert}
use Rattle.polynomials.proofs.Sums.{total_ext, total_none, total_add, total_split}
use Rattle.polynomials.proofs.Halves.{pow_twice, value_yes, value_low_high, value_high_low, value_high_high}

pub parts_ext : (m : ℕ) (f g : ℕ → ℕ) (x : ℕ) → ((y : ℕ) → y < 2 ^ m → f y ≡ g y) → parts m f x ≡ parts m g x
parts_ext m f g x h = total_ext (2 ^ m) _ _ (λ y l. ap (λ t. value y x * t) (h y l))

pub parts_add : (m : ℕ) (f g : ℕ → ℕ) (x : ℕ) → parts m (λ y. f y + g y) x ≡ parts m f x + parts m g x
parts_add m f g x = total_ext (2 ^ m) _ _ (λ y l. mul-add (value y x) (f y) (g y)) ∙ total_add (2 ^ m) _ _

parts_split : (m : ℕ) (f : ℕ → ℕ) (x : ℕ)
    → parts (suc m) f x ≡ parts m f x + total (2 ^ m) (λ y. value (2 ^ m + y) x * f (2 ^ m + y))
parts_split m f x = ap (λ n. total n (λ y. value y x * f y)) (pow_twice m) ∙ total_split (2 ^ m) (2 ^ m) _

-- a set without the topmost variable has parts in the lower half alone
pub parts_low : (m : ℕ) (f : ℕ → ℕ) (x : ℕ) → x < 2 ^ m → parts (suc m) f x ≡ parts m f x
parts_low m f x h =
    parts_split m f x
    ∙ ap (λ t. parts m f x + t)
    (total_none (2 ^ m) _ (λ y l. ap (λ t. t * f (2 ^ m + y)) (value_high_low m y x l h) ∙ zero-mul (f (2 ^ m + y))))
    ∙ add-zero (parts m f x)

-- a set with it has each part of the rest twice, without it and with it
pub parts_high : (m : ℕ) (f : ℕ → ℕ) (x : ℕ) → x < 2 ^ m
    → parts (suc m) f (2 ^ m + x) ≡ parts m f x + parts m (λ y. f (2 ^ m + y)) x
parts_high m f x h =
    parts_split m f (2 ^ m + x)
    ∙ ap₂ ◌+◌
    (total_ext (2 ^ m) _ _ (λ y l. ap (λ t. t * f y) (value_low_high m y x l h)))
    (total_ext (2 ^ m) _ _ (λ y l. ap (λ t. t * f (2 ^ m + y)) (value_high_high m y x l h)))

inversion_high : (m : ℕ) → ((f : ℕ → ℕ) (x : ℕ) → x < 2 ^ m → parts m (parts m f) x % 2 ≡ f x % 2)
    → (f : ℕ → ℕ) (x : ℕ) → x < 2 ^ m → parts (suc m) (parts (suc m) f) (2 ^ m + x) % 2 ≡ f (2 ^ m + x) % 2
inversion_high m ih f x h =
    let up : ℕ → ℕ = λ y. f (2 ^ m + y) in
    omega (
      arith,
      parts_high m (parts (suc m) f) x h,
      parts_ext m (parts (suc m) f) (parts m f) x (λ y l. parts_low m f y l),
      parts_ext m (λ y. parts (suc m) f (2 ^ m + y)) (λ y. parts m f y + parts m up y) x (λ y l. parts_high m f y l),
      parts_add m (parts m f) (parts m up) x,
      ih f x h,
      ih up x h,
    )

pub inversion : SumsOfPartsInvert
inversion zero f x h =
    let e : x ≡ 0 = lt-one h in
    let v : value 0 0 ≡ 1 = value_yes 0 0 refl in
    rw e (simp (v, one-mul, zero-add))
inversion (suc m) f x h =
    elim (cases_lt x (2 ^ m)) [
      | inl low ↦
          ap (λ t. t % 2) (parts_low m (parts (suc m) f) x low ∙ parts_ext m _ _ x (λ y l. parts_low m f y l)) ∙ inversion m f x low
      | inr high ↦
          let s = pow_twice m in
          let k : x - 2 ^ m < 2 ^ m = omega arith in
          let e : 2 ^ m + (x - 2 ^ m) ≡ x = omega arith in
          subst (λ t. parts (suc m) (parts (suc m) f) t % 2 ≡ f t % 2) e (inversion_high m (inversion m) f (x - 2 ^ m) k)
    ]

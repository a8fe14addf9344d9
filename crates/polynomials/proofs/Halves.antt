-- Sets of m + 1 variables in two halves, those without and those with the topmost variable, 2 ^ m: what value and ones are there.
use Rattle.std.proofs.Common.{◌≡◌, ℕ, suc, ◌+◌, ◌^◌, ◌<◌, true, false, cond, sym, ap, ◌∙◌, inl, inr, one-mul, pow-suc, zero-add, zero-mul, arith}
use lib.Bits.{bit_and, and_block, and_le_r}
use lib.Count.{ones, ones_cat}
use Rattle.std.proofs.lemmas.Bool.{eq-eqb, ne_eqb, cases_eq}
use Rattle.polynomials.specs.Monomials.{inside, value}

pub pow_twice : (m : ℕ) → 2 ^ suc m ≡ 2 ^ m + 2 ^ m
pow_twice m = rw pow-suc (omega arith)

pub value_one : (a b : ℕ) → inside a b ≡ true → value a b ≡ 1
unfolding value
value_one a b e = ap (λ t. cond t 1 0) e

pub value_zero : (a b : ℕ) → inside a b ≡ false → value a b ≡ 0
unfolding value
value_zero a b e = ap (λ t. cond t 1 0) e

pub value_yes : (a b : ℕ) → bit_and a b ≡ a → value a b ≡ 1
value_yes a b e = value_one a b (eq-eqb (bit_and a b) a e)

pub value_no : (a b : ℕ) → (bit_and a b ≡ a → ⊥) → value a b ≡ 0
value_no a b e = value_zero a b (ne_eqb (bit_and a b) a e)

value_like : (a b c d : ℕ) → (bit_and a b ≡ a → bit_and c d ≡ c) → (bit_and c d ≡ c → bit_and a b ≡ a) → value a b ≡ value c d
value_like a b c d to from =
    elim (cases_eq (bit_and a b) a) [
      | inl e ↦ value_yes a b e ∙ sym (value_yes c d (to e))
      | inr e ↦ value_no a b e ∙ sym (value_no c d (λ q. e (from q)))
    ]

module _ (m x y : ℕ) (hx : x < 2 ^ m) (hy : y < 2 ^ m) where
  and_low_high : bit_and x (2 ^ m + y) ≡ bit_and x y
  and_low_high = simp (zero-mul, zero-add, one-mul) at (and_block m 0 1 x y hx hy)

  and_high_low : bit_and (2 ^ m + x) y ≡ bit_and x y
  and_high_low = simp (zero-mul, zero-add, one-mul) at (and_block m 1 0 x y hx hy)

  and_high_high : bit_and (2 ^ m + x) (2 ^ m + y) ≡ 2 ^ m + bit_and x y
  and_high_high = simp one-mul at (and_block m 1 1 x y hx hy)

  pub value_low_high : value x (2 ^ m + y) ≡ value x y
  value_low_high = value_like x (2 ^ m + y) x y (λ e. sym and_low_high ∙ e) (λ e. and_low_high ∙ e)

  pub value_high_low : value (2 ^ m + x) y ≡ 0
  value_high_low = value_no (2 ^ m + x) y (λ e. omega (arith, and_high_low, and_le_r x y))

  pub value_high_high : value (2 ^ m + x) (2 ^ m + y) ≡ value x y
  value_high_high = value_like (2 ^ m + x) (2 ^ m + y) x y (λ e. omega (arith, and_high_high)) (λ e. omega (arith, and_high_high))

pub ones_high : (m x : ℕ) → x < 2 ^ m → ones (2 ^ m + x) ≡ 1 + ones x
unfolding ones
ones_high m x h = simp (one-mul) at (ones_cat m 1 x h)

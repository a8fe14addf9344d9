-- How many monomials are admitted below a number: no more than there are, and one for each that is.
use Rattle.std.proofs.Common.{◌≡◌, ℕ, zero, suc, ◌+◌, ◌<◌, ◌≤◌, Bool, true, false, if◌then◌else◌, ◌∷◌, map, length, filter, sym, refl, ap, ◌∙◌, arith}
use Rattle.std.specs.List.{range_with_len, sum_by, AllByRecursion}
use Rattle.std.proofs.lemmas.List.Sums.{length-filter, count_by-le-length, sum-map}
use Rattle.std.proofs.lemmas.List.FromFn.{sum_by-map-range_with_len_more}
use Rattle.polynomials.specs.Monomials.{down}

length-down : (n : ℕ) → length (down n) ≡ n
length-down zero = refl
length-down (suc n) = omega (arith, length-down n)

pub kept_le : (p : ℕ → Bool) (n : ℕ) → length (filter p (down n)) ≤ n
kept_le p n = omega (arith, length-filter p (down n), count_by-le-length p (down n), length-down n)

pub kept_below : (p : ℕ → Bool) (n : ℕ) → n ≤ 256 → AllByRecursion (λ x. x < 256) (filter p (down n))
kept_below p zero l = tt
kept_below p (suc n) l = elim (p n) as (λ b. AllByRecursion (λ x. x < 256) (if b then n ∷ filter p (down n) else filter p (down n))) [
  | true ↦ (omega arith, kept_below p n (omega arith))
  | false ↦ kept_below p n (omega arith)
]

module _ (p : ℕ → Bool) where
  -- 1 for a number that passes
  abbrev pub one_if : ℕ → ℕ
  one_if s = if p s then 1 else 0

  counted_up : (n : ℕ) → sum_by (λ n. n) (map one_if (range_with_len 0 n)) ≡ length (filter p (down n))
  counted_up zero = refl
  counted_up (suc n) =
      let e : suc n ≡ n + 1 = omega arith in
      ap (λ k. sum_by (λ n. n) (map one_if (range_with_len 0 k))) e
      ∙ sum_by-map-range_with_len_more (λ n. n) one_if 0 n n (omega arith)
      ∙ elim (p n) as (λ b. sum_by (λ n. n) (map one_if (range_with_len 0 n)) + (if b then 1 else 0) ≡ length (if b then n ∷ filter p (down n) else filter p (down n))) [
        | true ↦ omega (arith, counted_up n)
        | false ↦ omega (arith, counted_up n)
      ]

  pub summed_kept : (n : ℕ) → sum_by one_if (range_with_len 0 n) ≡ length (filter p (down n))
  summed_kept n = sym (sum-map one_if (range_with_len 0 n)) ∙ counted_up n

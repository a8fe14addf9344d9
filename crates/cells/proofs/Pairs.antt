-- The cost as a sum over the pairs of a weight and a bit.
use Rattle.std.proofs.Common.{◌≡◌, ℕ, zero, suc, ◌+◌, ◌^◌, ◌≤◌, List, length, take, get_or, ℤ, pos, refl, ap, sym, ◌∙◌, add-one, pow_mono, arith}
use Rattle.std.specs.List.{sum_by, zip}
use Rattle.std.proofs.lemmas.List.{take_all}
use Rattle.std.proofs.lemmas.List.Sums.{sum_by_more}
use Rattle.std.proofs.lemmas.Slice.Zip.{length-zip, get_or-zip}
use Rattle.polynomials.specs.Sums.{total}
use Rattle.polynomials.proofs.Sums.{total_ext}
use Rattle.cells.specs.Costs.{pays, cost}

-- a sum over a list is the total over its places
sum_by_total : {X : Type 0} (f : X → ℕ) (d : X) (xs : List X) (n : ℕ) → n ≤ length xs → sum_by f (take n xs) ≡ total n (λ i. f (get_or xs i d))
sum_by_total f d xs zero l = refl
sum_by_total f d xs (suc n) l = rw (← add-one n) (sum_by_more f xs n d (omega arith) ∙ ap (λ s. s + f (get_or xs n d)) (sum_by_total f d xs n (omega arith)))

-- so many pairs as points, and at most 256
module _ (m : ℕ) (weights : List ℤ) (word : List ℕ) (sizes : (m ≤ 8) × (length weights ≡ 2 ^ m) × (length word ≡ 2 ^ m)) where
  one_each : length (zip weights word) ≡ 2 ^ m
  one_each = omega (arith, length-zip weights word)

  pub few_points : length (zip weights word) ≤ 256
  few_points = let points : 2 ^ m ≤ 2 ^ 8 = pow_mono sizes.0 in omega (arith, one_each)

  pub cost_of_pairs : sum_by (λ (p : ℤ × ℕ). pays p.0 p.1) (zip weights word) ≡ cost m weights word
  cost_of_pairs =
      let pay_of : ℤ × ℕ → ℕ = λ (p : ℤ × ℕ). pays p.0 p.1 in
      let pairs = zip weights word in
      ap (sum_by pay_of) (sym (take_all (2 ^ m) pairs (omega (arith, one_each))))
      ∙ sum_by_total pay_of (pos 0, 0) pairs (2 ^ m) (omega (arith, one_each))
      ∙ total_ext (2 ^ m) _ _ (λ i l. ap pay_of (get_or-zip weights word i (pos 0, 0) (omega arith) (omega arith)))

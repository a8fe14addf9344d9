-- A table has degree at most r just where each monomial is admitted or has the coefficient 0.
use Rattle.std.proofs.Common.{◌≡◌, ℕ, ◌+◌, ◌^◌, ◌<◌, ◌⊎◌, Bool, true, false, List, length, get_or, refl, ◌∙◌, subst, inl, inr, arith}
use Rattle.std.specs.Bool.{MatchBool, IsTrue}
use Rattle.std.specs.List.{range_with_len, AllWithin, HoldsAt}
use Rattle.std.proofs.lemmas.Bool.{lt-leb, leb-false}
use Rattle.std.proofs.lemmas.List.FromFn.{length-range_with_len, get_or-range_with_len}
use lib.Count.{ones}
use Rattle.polynomials.specs.Monomials.{admits}
use Rattle.polynomials.specs.Coefficients.{coefficient, Degree≤}

module _ (m r : ℕ) (table : List ℕ) where
  -- the monomial is admitted or has the coefficient 0
  abbrev pub Passes : ℕ → Type 0
  Passes s = (admits r s ≡ true) ⊎ (coefficient m table s ≡ 0)

  -- neither
  abbrev pub Fails : ℕ → Type 0
  Fails s = (admits r s ≡ true → ⊥) × (coefficient m table s ≡ 0 → ⊥)

  at : (P : ℕ → Type 0) (n k : ℕ) → k < length (range_with_len 0 n) → ((d : ℕ) → P (get_or (range_with_len 0 n) k d)) → P k
  at P n k l h =
      let e : 0 + k ≡ k = omega arith in
      subst P (get_or-range_with_len 0 n k 0 (omega (arith, length-range_with_len 0 n)) ∙ e) (h 0)

  passed : (s : ℕ) → r < ones s → Passes s → coefficient m table s ≡ 0
  passed s high (inl a) =
      let other : admits r s ≡ false = lt-leb (ones s) r high in
      let z : ◌≡◌ {A = ℕ} 0 1 = cc in
      absurd (omega arith)
  passed s high (inr z) = z

  failed : (s : ℕ) → Fails s → r < ones s
  failed s h = by (admits r s) refl
    where
      by : (b : Bool) → admits r s ≡ b → r < ones s
      by true e = absurd (h.0 e)
      by false e = leb-false (ones s) r e

  pub low_where_all : (n : ℕ) (b : Bool) → n ≡ 2 ^ m
      → MatchBool b (AllWithin Passes (range_with_len 0 n) 0 (length (range_with_len 0 n))) ((k : ℕ) × (k < length (range_with_len 0 n)) × HoldsAt Fails (range_with_len 0 n) k)
      → (IsTrue b → Degree≤ m r table) × (Degree≤ m r table → IsTrue b)
  low_where_all n true e h = (
    λ t s l high. let long : s < length (range_with_len 0 n) = omega (arith, length-range_with_len 0 n) in passed s high (at Passes n s long (λ d. h s d (omega arith) long)),
    λ d. refl,
  )
  low_where_all n false e h =
      let fails = at Fails n h.0 h.1 h.2 in
      (λ t. let z : ◌≡◌ {A = ℕ} 0 1 = cc in absurd (omega arith), λ d. absurd (fails.1 (d h.0 (omega (arith, h.1, length-range_with_len 0 n)) (failed h.0 fails))))

-- What the comparisons of floats say of levels.
use Rattle.std.proofs.Common.{◌≡◌, ℕ, ◌*◌, ◌<◌, true, false, ℤ, pos, sym, refl, ap, ◌∙◌, subst, inl, inr, true≢false, lt_irrefl, eq-zero-or-pos, mul-pos, zero-mul, arith}
use mathlib.Core.Bool.{false≢true}
use lib.Ieee.{Float, nan, inf, fin, binary32, up, of_bits, lt, le, eq}
use lib.Ieee.Fits.{down_pos, up_pos}
use Rattle.std.proofs.lemmas.Bool.{eqb-true}
use Rattle.std.proofs.lemmas.Bool.Decides.{nat_tests}
use Rattle.levels.specs.Levels.{in_unit, above}

-- 0.0 and 1.0 as the code has them, by their bits
nought : of_bits binary32 0 ≡ fin false 0 (pos 0)
unfolding of_bits
nought = refl

one : of_bits binary32 0x3f80_0000 ≡ fin false 1 (pos 0)
unfolding of_bits
one = refl

up_zero : (m : ℕ) (e : ℤ) → m * up e ≡ 0 → m ≡ 0
up_zero m e h = elim (eq-zero-or-pos m) [ inl z ↦ z | inr p ↦ absurd (lt_irrefl 0 (subst (λ (k : ℕ). 0 < k) h (mul-pos p (up_pos e)))) ]

not_below : (x : Float) → le (fin false 0 (pos 0)) x ≡ true → le x (fin false 1 (pos 0)) ≡ in_unit x
unfolding le lt eq
not_below nan h = refl
not_below (inf true) h = absurd (false≢true h)
not_below (inf false) h = refl
not_below (fin false m e) h = grind (arith, nat_tests)
not_below (fin true m e) h = let d = down_pos e in let z = up_zero m e in grind (arith, nat_tests)

below : (x : Float) → le (fin false 0 (pos 0)) x ≡ false → false ≡ in_unit x
unfolding le lt eq
below nan h = refl
below (inf true) h = refl
below (inf false) h = absurd (true≢false h)
below (fin false m e) h = grind (arith, nat_tests)
below (fin true m e) h = let z : m ≡ 0 → m * up e ≡ 0 = λ k. rw k (zero-mul (up e)) in grind (arith, nat_tests)

-- a number that is not below 0 is a level just where it is at most 1
pub level_not_below : (x : Float) → le (of_bits binary32 0) x ≡ true → le x (of_bits binary32 0x3f80_0000) ≡ in_unit x
level_not_below x h = ap (le x) one ∙ not_below x (sym (ap (λ (k : Float). le k x) nought) ∙ h)

-- what is not at least 0 is no level
pub level_below : (x : Float) → le (of_bits binary32 0) x ≡ false → false ≡ in_unit x
level_below x h = below x (sym (ap (λ (k : Float). le k x) nought) ∙ h)

no_size : (m : ℕ) (e : ℤ) → in_unit (fin true m e) ≡ true → m * up e ≡ 0
no_size m e h = eqb-true (m * up e) 0 h

-- of two levels the comparison tells which is above
pub level_above : (x y : Float) → in_unit x ≡ true → in_unit y ≡ true → lt y x ≡ above x y
unfolding lt
level_above nan y h k = absurd (false≢true h)
level_above (inf s) y h k = absurd (false≢true h)
level_above (fin s m e) nan h k = absurd (false≢true k)
level_above (fin s m e) (inf t) h k = absurd (false≢true k)
level_above (fin false m e) (fin false n d) h k = refl
level_above (fin true m e) (fin false n d) h k = rw (no_size m e h) (grind (arith, nat_tests))
level_above (fin false m e) (fin true n d) h k = rw (no_size n d k) (grind (arith, nat_tests))
level_above (fin true m e) (fin true n d) h k = rw (no_size m e h, no_size n d k) (grind (arith, nat_tests))

-- 64 times a level is exact, and its whole part, cut and cast, is `whole64`.
use Rattle.std.proofs.Common.{◌≡◌, ℕ, ◌*◌, ◌/◌, ◌^◌, ◌<◌, ◌≤◌, Bool, true, false, T, ℤ, pos, sym, refl, ap, ◌∙◌, subst, true≢false, mul_assoc, mul-pos, arith, lit<, le→leb}
use mathlib.Core.Bool.{false≢true}
use native.Mathlib.Nat.{div-le_of_le-mul}
use lib.Ieee.{Float, nan, inf, fin, binary32, up, down, fits, mul, round, of_bits, of_int, in_float, in_unsigned, to_unsigned}
use lib.Ieee.Back.{unsigned_back}
use lib.Ieee.Exact.{HasValue}
use lib.Ieee.Fits.{down_pos}
use lib.Ieee.Nearest.{div_same}
use Rattle.std.proofs.lemmas.Bool.{leb-true, eqb-true}
use Rattle.std.specs.Float.{float_with_sign, trunc, round_with}
use Rattle.levels.specs.Levels.{in_unit, whole64}
use Rattle.levels.proofs.Doubling.{doubled}

-- 64.0 as the code has it, by its bits
sixty_four : of_bits binary32 0x4280_0000 ≡ fin false 1 (pos 6)
unfolding of_bits
sixty_four = refl

unit_le : (s : Bool) (m : ℕ) (e : ℤ) → in_unit (fin s m e) ≡ true → m * up e ≤ down e
unit_le false m e h = leb-true (m * up e) (down e) h
unit_le true m e h = omega (arith, eqb-true (m * up e) 0 h)

pub whole64_le : (x : Float) → in_unit x ≡ true → whole64 x ≤ 64
whole64_le nan h = absurd (false≢true h)
whole64_le (inf s) h = absurd (false≢true h)
whole64_le (fin s m e) h = div-le_of_le-mul (down e) (omega (arith, unit_le s m e h))

-- what is cut from a value that is a / c
cut : (y : Float) (a c : ℕ) → HasValue y false a c → 0 < c → trunc binary32 y ≡ of_int binary32 (pos (a / c))
unfolding round_with of_int
cut nan a c v some = absurd v
cut (inf s) a c v some = absurd v
cut (fin true m e) a c v some = absurd (true≢false v.0)
cut (fin false m e) a c v some = ap (λ (k : ℕ). round binary32 false k 1) (div_same (m * up e) (down e) a c (down_pos e) some v.1)

-- for a level that is not negative
cut_product : (m : ℕ) (e : ℤ) → T (fits binary32 (fin false m e)) → m * up e ≤ down e
    → trunc binary32 (mul binary32 (fin false m e) (fin false 1 (pos 6))) ≡ of_int binary32 (pos (64 * (m * up e) / down e))
cut_product m e t h =
    let some : 0 < down e * 1 = mul-pos (down_pos e) (lit< tt) in
    cut (mul binary32 (fin false m e) (fin false 1 (pos 6))) (m * up e * 64) (down e * 1) (doubled binary32 6 m e t (omega (arith, down_pos e))) some
    ∙ ap (λ (k : ℕ). of_int binary32 (pos k)) (div_same (m * up e * 64) (down e * 1) (64 * (m * up e)) (down e) some (down_pos e) (omega (arith, mul_assoc (m * up e) 64 (down e))))

-- the size of a level, times 64, cut
cut_size : (x : Float) → in_unit x ≡ true → T (fits binary32 (float_with_sign false x))
    → trunc binary32 (mul binary32 (float_with_sign false x) (fin false 1 (pos 6))) ≡ of_int binary32 (pos (whole64 x))
unfolding float_with_sign
cut_size nan h t = absurd (false≢true h)
cut_size (inf s) h t = absurd (false≢true h)
cut_size (fin s m e) h t = cut_product m e t (unit_le s m e h)

float_in : (n : ℕ) → n ≤ 64 → T (in_float binary32 (pos n))
unfolding in_float
float_in n h = le→leb n (2 ^ 24) (omega arith)

-- a float that a byte can take without loss, and the byte
pub record Cast (x : Float) (n : ℕ) : Type 0 where
  pub lossless : T (in_unsigned binary32 8 x)
  pub byte : to_unsigned 8 x ≡ n

pub sixtyfourths : (x size whole : Float) → in_unit x ≡ true → size ≡ float_with_sign false x → T (fits binary32 size)
    → whole ≡ trunc binary32 (mul binary32 size (of_bits binary32 0x4280_0000)) → Cast whole (whole64 x)
sixtyfourths x size whole h e t k =
    let small = whole64_le x h in
    let is : whole ≡ of_int binary32 (pos (whole64 x)) =
    k
    ∙ ap (λ (y : Float). trunc binary32 (mul binary32 size y)) sixty_four
    ∙ ap (λ (y : Float). trunc binary32 (mul binary32 y (fin false 1 (pos 6)))) e
    ∙ cut_size x h (subst (λ (y : Float). T (fits binary32 y)) e t) in
    let back = unsigned_back binary32 8 (whole64 x) (float_in (whole64 x) small) (omega arith) in
    record { lossless = subst (λ (y : Float). T (in_unsigned binary32 8 y)) (sym is) back.0; byte = ap (to_unsigned 8) is ∙ back.1 }

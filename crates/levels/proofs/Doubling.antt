-- A float times a power of two is exact, as long as the product stays in the format's range.
use Rattle.std.proofs.Common.{◌≡◌, ℕ, zero, suc, ◌+◌, ◌-◌, ◌*◌, ◌%◌, ◌^◌, ◌<◌, ◌≤◌, Bool, false, ◌&&◌, T, eqb, ltb, leb, ℤ, pos, negsuc, sym, refl, ap, ◌∙◌, subst, le_of_eq, lt_of_lt_of_le, le_of_suc-le-suc, lt_of_le_of_lt, lt_irrefl, mul_assoc, mul_comm, lt_of_mul-lt-mul_right, mul-lt-mul_of_pos_right, mul-pos, one-mul, lt_of_not-le, mul-one, mul_right_comm, arith, lit<, eqb→eq, ltb→lt, leb→le, pow_pos, pow-add}
use lib.Pow.{pow-lt}
use lib.Ieee.{fin, Format, prec, emax, low, up, down, fits, mul}
use lib.Ieee.Fits.{and_l, and_r, down_pos}
use lib.Ieee.Exact.{HasValue, round_exact}

whole_down : (e : ℤ) → up e * down e ≡ 1 → down e ≡ 1
whole_down (pos k) h = refl
whole_down (negsuc k) h = omega arith

-- a significand has no more digits than the format keeps, and the fraction no smaller unit than the format's
record Digits (f : Format) (m : ℕ) (e : ℤ) : Type 0 where
  few : m < 2 ^ prec f
  coarse : down e ≤ 2 ^ low f

digits : (f : Format) (s : Bool) (m : ℕ) (e : ℤ) → T (fits f (fin s m e)) → Digits f m e
unfolding fits
digits f s zero e t = record { few = pow_pos (prec f); coarse = omega (arith, whole_down e (eqb→eq (up e * down e) 1 t), pow_pos (low f)) }
digits f s (suc m) e t =
    let a : Bool = eqb (suc m % 2) 1 in
    let b : Bool = ltb (suc m) (2 ^ prec f) in
    let c : Bool = leb (down e) (2 ^ low f) in
    let first = and_l (a && b && c) (ltb (suc m * up e) (2 ^ suc (emax f) * down e)) t in
    record {
      few = ltb→lt (suc m) (2 ^ prec f) (and_r a b (and_l (a && b) c first));
      coarse = leb→le (down e) (2 ^ low f) (and_r (a && b) c first);
    }

-- 2 ^ i * m * 2 ^ e is m * 2 ^ shift i e, for an i that is large enough
abbrev shift : ℕ → ℤ → ℕ
shift i (pos j) = j + i
shift i (negsuc j) = i - suc j

power_le : (j l : ℕ) → 2 ^ j ≤ 2 ^ l → j ≤ l
power_le j l h = le_of_suc-le-suc (lt_of_not-le (λ (g : suc l ≤ j). lt_irrefl (2 ^ l) (lt_of_lt_of_le (pow-lt g) h)))

on_grid : (k l m : ℕ) (e : ℤ) → down e ≤ 2 ^ l → m * up e * (1 * 2 ^ k) * 2 ^ l ≡ m * 2 ^ shift (k + l) e * (down e * 1)
on_grid k l m (pos j) h =
    ap (λ (x : ℕ). m * 2 ^ j * x * 2 ^ l) (one-mul (2 ^ k))
    ∙ mul_assoc (m * 2 ^ j) (2 ^ k) (2 ^ l)
    ∙ ap (λ (x : ℕ). m * 2 ^ j * x) (sym (pow-add 2 k l))
    ∙ mul_assoc m (2 ^ j) (2 ^ (k + l))
    ∙ ap (λ (x : ℕ). m * x) (sym (pow-add 2 j (k + l)))
    ∙ sym (mul-one (m * 2 ^ (j + (k + l))))
on_grid k l m (negsuc j) h =
    let g : suc j ≤ l = power_le (suc j) l h in
    let i = k + l - suc j in
    let b : i + suc j ≡ k + l = omega arith in
    ap (λ (x : ℕ). x * (1 * 2 ^ k) * 2 ^ l) (mul-one m)
    ∙ ap (λ (x : ℕ). m * x * 2 ^ l) (one-mul (2 ^ k))
    ∙ mul_assoc m (2 ^ k) (2 ^ l)
    ∙ ap (λ (x : ℕ). m * x) (sym (pow-add 2 k l) ∙ ap (λ (x : ℕ). 2 ^ x) (sym b) ∙ pow-add 2 i (suc j))
    ∙ sym (mul_assoc m (2 ^ i) (2 ^ suc j))
    ∙ ap (λ (x : ℕ). m * 2 ^ i * x) (sym (mul-one (2 ^ suc j)))

in_range : (k l t m : ℕ) (e : ℤ) → down e ≤ 2 ^ l → m * up e * 2 ^ k < 2 ^ t * down e → m * 2 ^ shift (k + l) e < 2 ^ (l + t)
in_range k l t m e d h =
    lt_of_mul-lt-mul_right (down e)
    (subst (λ (x : ℕ). m * 2 ^ shift (k + l) e * x < 2 ^ (l + t) * down e) (mul-one (down e))
    (lt_of_le_of_lt (le_of_eq (sym (on_grid k l m e d) ∙ ap (λ (x : ℕ). m * up e * x * 2 ^ l) (one-mul (2 ^ k))))
    (lt_of_lt_of_le (mul-lt-mul_of_pos_right h (pow_pos l)) (le_of_eq (mul_right_comm (2 ^ t) (down e) (2 ^ l) ∙ ap (λ (x : ℕ). x * down e) (mul_comm (2 ^ t) (2 ^ l) ∙ sym (pow-add 2 l t)))))))

-- the product of a float that is not negative has the exact value
pub doubled : (f : Format) (k m : ℕ) (e : ℤ) → T (fits f (fin false m e)) → m * up e * 2 ^ k < 2 ^ suc (emax f) * down e
    → HasValue (mul f (fin false m e) (fin false 1 (pos k))) false (m * up e * (1 * 2 ^ k)) (down e * 1)
unfolding mul
doubled f k m e t h =
    let d = digits f false m e t in
    round_exact f false (m * up e * (1 * 2 ^ k)) (down e * 1) m (shift (k + low f) e) (mul-pos (down_pos e) (lit< tt))
    d.few (in_range k (low f) (suc (emax f)) m e d.coarse h) (on_grid k (low f) m e d.coarse)

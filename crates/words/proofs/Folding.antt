-- Bits that are folded together by exclusive or along a list make the sums modulo 2 of the definitions.
use Rattle.std.proofs.Common.{◌≡◌, ℕ, ◌+◌, ◌*◌, ◌%◌, ◌<◌, Bool, true, false, if◌then◌else◌, List, [], ◌∷◌, length, get_or, ap, ◌∙◌, subst, refl, add-one, arith}
use lib.Bits.{bit_xor, xor_add_and, xor_lt}
use Rattle.std.specs.List.{fold, zip, enumerate_from}
use Rattle.polynomials.specs.Sums.{total}
use Rattle.polynomials.specs.Monomials.{inside, value}
use Rattle.polynomials.specs.Messages.{Bits}
use Rattle.polynomials.specs.Words.{sum_at}
use Rattle.polynomials.proofs.Halves.{value_one, value_zero}

xor_bits : (a b : ℕ) → a < 2 → b < 2 → bit_xor a b ≡ (a + b) % 2
xor_bits a b p q = omega (arith, xor_add_and a b, xor_lt 1 a b p q)

-- a bit counts where its number passes
abbrev pub count_in : (ℕ → Bool) → ℕ → ℕ × ℕ → ℕ
count_in passes sum p = if passes p.0 then bit_xor sum p.1 else sum

-- the coefficients of the monomials that are 1 at a point, one after the other
pub folded_values : (point : ℕ) (ss cs : List ℕ) (s : ℕ) → s < 2 → Bits cs
    → fold (count_in (λ x. inside x point)) s (zip ss cs) ≡ (s + sum_at ss cs point) % 2
folded_values point [] cs s l b = omega arith
folded_values point (x ∷ ss) [] s l b = omega arith
folded_values point (x ∷ ss) (c ∷ cs) s l b = by (inside x point) refl (λ s l. folded_values point ss cs s l b.1)
  where
    by : (t : Bool) → inside x point ≡ t
        → ((s : ℕ) → s < 2 → fold (count_in (λ x. inside x point)) s (zip ss cs) ≡ (s + sum_at ss cs point) % 2)
        → fold (count_in (λ x. inside x point)) (if t then bit_xor s c else s) (zip ss cs) ≡ (s + (value x point * c + sum_at ss cs point)) % 2
    by true e later =
        let v = ap (λ t. t * c) (value_one x point e) in
        omega (arith, later (bit_xor s c) (xor_lt 1 s c l b.0), xor_bits s c l b.0, v)
    by false e later =
        let v = ap (λ t. t * c) (value_zero x point e) in
        omega (arith, later s l, v)

-- the bits of a table at the points inside a monomial, one after the other; these are the bits from point k on
pub folded_table : (mono : ℕ) (table bits : List ℕ) (k s : ℕ) → Bits bits → ((i : ℕ) → get_or table (k + i) 0 ≡ get_or bits i 0)
    → s ≡ total k (λ p. value p mono * get_or table p 0) % 2
    → fold (count_in (λ x. inside x mono)) s (enumerate_from k bits)
    ≡ total (k + length bits) (λ p. value p mono * get_or table p 0) % 2
folded_table mono table [] k s b same h = let e : k ≡ k + 0 = omega arith in h ∙ ap (λ n. total n (λ p. value p mono * get_or table p 0) % 2) e
folded_table mono table (b ∷ bs) k s each same h =
    by (inside k mono) refl (λ s h. folded_table mono table bs (k + 1) s each.1 later h) ∙ ap (λ n. total n (λ p. value p mono * get_or table p 0) % 2) longer
  where
    f : ℕ → ℕ
    f p = value p mono * get_or table p 0

    longer : (k + 1) + length bs ≡ k + length (b ∷ bs)
    longer = omega arith

    here : get_or table k 0 ≡ b
    here = let e : k + 0 ≡ k = omega arith in subst (λ n. get_or table n 0 ≡ b) e (same 0)

    more : total (k + 1) f ≡ total k f + value k mono * get_or table k 0
    more = rw add-one

    later : (i : ℕ) → get_or table ((k + 1) + i) 0 ≡ get_or bs i 0
    later i = let e : (k + 1) + i ≡ k + (i + 1) = omega arith in ap (λ n. get_or table n 0) e ∙ same (i + 1) ∙ rw add-one

    by : (t : Bool) → inside k mono ≡ t
        → ((s : ℕ) → s ≡ total (k + 1) f % 2 → fold (count_in (λ x. inside x mono)) s (enumerate_from (k + 1) bs) ≡ total ((k + 1) + length bs) f % 2)
        → fold (count_in (λ x. inside x mono)) (if t then bit_xor s b else s) (enumerate_from (k + 1) bs)
        ≡ total ((k + 1) + length bs) f % 2
    by true e rest =
        let small : b < 2 = each.0 in
        let v = ap (λ t. t * get_or table k 0) (value_one k mono e) in
        rest (bit_xor s b) (omega (arith, h, here, more, v, xor_bits s b (omega (arith, h)) small))
    by false e rest =
        let v = ap (λ t. t * get_or table k 0) (value_zero k mono e) in
        rest s (omega (arith, h, more, v))

-- How many monomials an order admits: in halves, as Pascal's triangle grows.
use Rattle.std.proofs.Common.{◌≡◌, ℕ, zero, suc, ◌+◌, ◌^◌, ◌<◌, Bool, true, false, cond, leb, List, [], ◌∷◌, ◌++◌, map, length, filter, sym, refl, ap, ◌∙◌, ap₂, add_comm, suc-add, zero-add, one-add, arith, length-append}
use lib.Count.{ones, ones_in}
use lib.Dec.{leb-zero, leb-suc-zero, leb-suc-suc}
use lib.ListN.{length-map}
use Rattle.std.proofs.lemmas.List.Elements.{filter-append}
use Rattle.polynomials.specs.Monomials.{down, admits, monomials}
use Rattle.polynomials.specs.Binomials.{binomial, dimension}
use Rattle.polynomials.specs.Laws.{MonomialsCounted}
use Rattle.polynomials.proofs.Halves.{pow_twice, ones_high}

-- ---- the monomials of m + 1 variables: those with the topmost variable, then those without it

pub down_split : (a b : ℕ) → down (a + b) ≡ map (λ x. b + x) (down a) ++ down b
down_split zero b = ap down (zero-add b)
down_split (suc a) b = ap down (suc-add a b) ∙ ap₂ {C = List ℕ} ◌∷◌ (add_comm a b) (down_split a b)

kept_shift : (c n : ℕ) (p q : ℕ → Bool) → ((x : ℕ) → x < n → p (c + x) ≡ q x)
    → filter p (map (λ x. c + x) (down n)) ≡ map (λ x. c + x) (filter q (down n))
kept_shift c zero p q h = refl
kept_shift c (suc n) p q h =
    let ih = kept_shift c n p q (λ x l. h x (omega arith)) in
    let e = h n (omega arith) in
    rw (e, ih) (elim (q n) as (λ b.
    cond b ((c + n) ∷ map (λ x. c + x) (filter q (down n))) (map (λ x. c + x) (filter q (down n)))
    ≡ map (λ x. c + x) (cond b (n ∷ filter q (down n)) (filter q (down n)))) [ true ↦ refl | false ↦ refl ])

kept_none : (xs : List ℕ) → filter (λ x. false) xs ≡ []
kept_none [] = refl
kept_none (x ∷ xs) = kept_none xs

kept_halves : (m : ℕ) (p q : ℕ → Bool) → ((x : ℕ) → x < 2 ^ m → p (2 ^ m + x) ≡ q x)
    → filter p (down (2 ^ suc m)) ≡ map (λ x. 2 ^ m + x) (filter q (down (2 ^ m))) ++ filter p (down (2 ^ m))
kept_halves m p q h =
    ap (λ n. filter p (down n)) (pow_twice m) ∙ ap (filter p) (down_split (2 ^ m) (2 ^ m))
    ∙ filter-append p (map (λ x. 2 ^ m + x) (down (2 ^ m))) (down (2 ^ m))
    ∙ ap (λ t. t ++ filter p (down (2 ^ m))) (kept_shift (2 ^ m) (2 ^ m) p q h)

pub monomials_up : (m r : ℕ) → monomials (suc m) (suc r) ≡ map (λ x. 2 ^ m + x) (monomials m r) ++ monomials m (suc r)
monomials_up m r =
    kept_halves m (admits (suc r)) (admits r)
    (λ x l. ap (λ t. leb t (suc r)) (ones_high m x l ∙ one-add (ones x)) ∙ leb-suc-suc (ones x) r)

pub monomials_constant : (m : ℕ) → monomials (suc m) zero ≡ monomials m zero
monomials_constant m =
    kept_halves m (admits zero) (λ x. false) (λ x l. ap (λ t. leb t zero) (ones_high m x l ∙ one-add (ones x)) ∙ leb-suc-zero (ones x))
    ∙ ap (λ t. map (λ x. 2 ^ m + x) t ++ monomials m zero) (kept_none (down (2 ^ m)))

pub monomials_point : (r : ℕ) → monomials zero r ≡ 0 ∷ []
unfolding ones ones_in
monomials_point r = ap (λ t. cond t (0 ∷ []) []) (leb-zero r)

-- ---- the sums of binomials grow alike

binomial_zero : (m : ℕ) → binomial m zero ≡ 1
binomial_zero zero = refl
binomial_zero (suc m) = refl

pub dimension_up : (m r : ℕ) → dimension (suc m) (suc r) ≡ dimension m r + dimension m (suc r)
dimension_up m zero = omega (arith, binomial_zero m)
dimension_up m (suc r) = omega (arith, dimension_up m r)

dimension_point : (r : ℕ) → dimension zero r ≡ 1
dimension_point zero = refl
dimension_point (suc r) = omega (arith, dimension_point r)

pub monomials_counted : MonomialsCounted
monomials_counted zero r = ap length (monomials_point r) ∙ sym (dimension_point r)
monomials_counted (suc m) zero = ap length (monomials_constant m) ∙ monomials_counted m zero ∙ binomial_zero m
monomials_counted (suc m) (suc r) =
    ap length (monomials_up m r) ∙ length-append (map (λ x. 2 ^ m + x) (monomials m r)) (monomials m (suc r))
    ∙ ap₂ ◌+◌ (length-map (monomials m r) (λ x. 2 ^ m + x) ∙ monomials_counted m r) (monomials_counted m (suc r))
    ∙ sym (dimension_up m r)

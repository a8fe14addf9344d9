-- A sum over the admitted monomials as a sum over all sets of variables, those not admitted with the coefficient 0.
use Rattle.std.proofs.Common.{◌≡◌, ℕ, zero, suc, ◌*◌, ◌<◌, Bool, true, false, cond, List, [], ◌∷◌, map, filter, sym, refl, ap, ◌∙◌, mul-zero, arith}
use Rattle.polynomials.specs.Sums.{total}
use Rattle.polynomials.specs.Monomials.{down, value}
use Rattle.polynomials.specs.Words.{sum_at}
use Rattle.polynomials.proofs.Sums.{total_ext, total_none}
use Rattle.polynomials.proofs.Lookup.{lookup, lookup_here, lookup_other, lookup_past}

spread_step : (n : ℕ) (K : List ℕ) (p : ℕ) → ((cs : List ℕ) → sum_at K cs p ≡ total n (λ s. value s p * lookup K cs s))
    → ((cs : List ℕ) → lookup K cs n ≡ 0)
    → (b : Bool) (cs : List ℕ) → sum_at (cond b (n ∷ K) K) cs p ≡ total (suc n) (λ s. value s p * lookup (cond b (n ∷ K) K) cs s)
spread_step n K p ih past true [] = sym (total_none (suc n) _ (λ s l. mul-zero (value s p)))
spread_step n K p ih past true (c ∷ cs) =
    let same = total_ext n (λ s. value s p * lookup (n ∷ K) (c ∷ cs) s) (λ s. value s p * lookup K cs s)
    (λ s l. ap (λ t. value s p * t) (lookup_other n K c cs s (λ e. omega arith))) in
    omega (arith, same, ih cs, ap (λ t. value n p * t) (lookup_here n K c cs))
spread_step n K p ih past false cs = omega (arith, ih cs, ap (λ t. value n p * t) (past cs) ∙ mul-zero (value n p))

-- with a message's own coefficients
pub spread : (q : ℕ → Bool) (n : ℕ) (p : ℕ) (cs : List ℕ)
    → sum_at (filter q (down n)) cs p ≡ total n (λ s. value s p * lookup (filter q (down n)) cs s)
spread q zero p cs = refl
spread q (suc n) p cs = spread_step n (filter q (down n)) p (spread q n p) (λ ds. lookup_past q n ds n (omega arith)) (q n) cs

all_step : (n : ℕ) (K : List ℕ) (g : ℕ → ℕ) (p : ℕ) (b : Bool) → (b ≡ false → g n ≡ 0) → sum_at K (map g K) p ≡ total n (λ s. value s p * g s)
    → sum_at (cond b (n ∷ K) K) (map g (cond b (n ∷ K) K)) p ≡ total (suc n) (λ s. value s p * g s)
all_step n K g p true h ih = omega arith
all_step n K g p false h ih = omega (arith, ap (λ t. value n p * t) (h refl) ∙ mul-zero (value n p))

-- with coefficients that are 0 at what is not admitted
pub spread_all : (q : ℕ → Bool) (n : ℕ) (g : ℕ → ℕ) (p : ℕ) → ((s : ℕ) → s < n → q s ≡ false → g s ≡ 0)
    → sum_at (filter q (down n)) (map g (filter q (down n))) p ≡ total n (λ s. value s p * g s)
spread_all q zero g p h = refl
spread_all q (suc n) g p h = all_step n (filter q (down n)) g p (q n) (h n (omega arith)) (spread_all q n g p (λ s l. h s (omega arith)))

-- The coefficient that a message gives a monomial: a bit, 0 at what is not admitted, and all of them in order are the message.
-- Each by induction over the numbers below n: the monomial n stands in front of those below it, or is not kept.
use Rattle.std.proofs.Common.{◌≡◌, ℕ, zero, suc, ◌<◌, ◌≤◌, Bool, true, false, cond, eqb, List, [], ◌∷◌, map, length, filter, sym, refl, ap, ◌∙◌, ap₂, arith}
use Rattle.std.proofs.lemmas.Bool.{eq-eqb, ne_eqb}
use Rattle.polynomials.specs.Monomials.{down}
use Rattle.polynomials.specs.Messages.{Bits}

-- the coefficient that the bytes of a message over these monomials give the monomial x; 0 where x is not among them
abbrev pub lookup : List ℕ → List ℕ → ℕ → ℕ
lookup [] cs x = 0
lookup (s ∷ ss) [] x = 0
lookup (s ∷ ss) (c ∷ cs) x = cond (eqb s x) c (lookup ss cs x)

pub lookup_here : (s : ℕ) (ss : List ℕ) (c : ℕ) (cs : List ℕ) → lookup (s ∷ ss) (c ∷ cs) s ≡ c
lookup_here s ss c cs = ap (λ t. cond t c (lookup ss cs s)) (eq-eqb s s refl)

pub lookup_other : (s : ℕ) (ss : List ℕ) (c : ℕ) (cs : List ℕ) (x : ℕ) → (s ≡ x → ⊥) → lookup (s ∷ ss) (c ∷ cs) x ≡ lookup ss cs x
lookup_other s ss c cs x h = ap (λ t. cond t c (lookup ss cs x)) (ne_eqb s x h)

pub lookup_bit : (ss cs : List ℕ) (x : ℕ) → Bits cs → lookup ss cs x < 2
lookup_bit [] cs x h = omega arith
lookup_bit (s ∷ ss) [] x h = omega arith
lookup_bit (s ∷ ss) (c ∷ cs) x h = elim (eqb s x) as (λ t. cond t c (lookup ss cs x) < 2) [ true ↦ h.0 | false ↦ lookup_bit ss cs x h.1 ]

past_step : (n : ℕ) (K : List ℕ) → ((cs : List ℕ) (x : ℕ) → n ≤ x → lookup K cs x ≡ 0)
    → (b : Bool) (cs : List ℕ) (x : ℕ) → n < x → lookup (cond b (n ∷ K) K) cs x ≡ 0
past_step n K ih true [] x h = refl
past_step n K ih true (c ∷ cs) x h = lookup_other n K c cs x (λ e. omega arith) ∙ ih cs x (omega arith)
past_step n K ih false cs x h = ih cs x (omega arith)

pub lookup_past : (q : ℕ → Bool) (n : ℕ) (cs : List ℕ) (x : ℕ) → n ≤ x → lookup (filter q (down n)) cs x ≡ 0
lookup_past q zero cs x h = refl
lookup_past q (suc n) cs x h = past_step n (filter q (down n)) (lookup_past q n) (q n) cs x h

unkept_step : (q : ℕ → Bool) (n x : ℕ) (K : List ℕ) → q x ≡ false → ((cs : List ℕ) → lookup K cs x ≡ 0)
    → (b : Bool) → q n ≡ b → (cs : List ℕ) → lookup (cond b (n ∷ K) K) cs x ≡ 0
unkept_step q n x K e ih true w [] = refl
unkept_step q n x K e ih true w (c ∷ cs) =
    lookup_other n K c cs x (λ s. let z : true ≡ false = sym w ∙ ap q s ∙ e in let n : ◌≡◌ {A = ℕ} 0 1 = cc in omega arith) ∙ ih cs
unkept_step q n x K e ih false w cs = ih cs

pub lookup_unkept : (q : ℕ → Bool) (n x : ℕ) → q x ≡ false → (cs : List ℕ) → lookup (filter q (down n)) cs x ≡ 0
lookup_unkept q zero x e cs = refl
lookup_unkept q (suc n) x e cs = unkept_step q n x (filter q (down n)) e (lookup_unkept q n x e) (q n) refl cs

ext_step : (n : ℕ) (K : List ℕ) (f g : ℕ → ℕ) → f n ≡ g n → map f K ≡ map g K → (b : Bool) → map f (cond b (n ∷ K) K) ≡ map g (cond b (n ∷ K) K)
ext_step n K f g e ih true = ap₂ {C = List ℕ} ◌∷◌ e ih
ext_step n K f g e ih false = ih

pub map_kept_ext : (q : ℕ → Bool) (n : ℕ) (f g : ℕ → ℕ) → ((x : ℕ) → x < n → f x ≡ g x) → map f (filter q (down n)) ≡ map g (filter q (down n))
map_kept_ext q zero f g h = refl
map_kept_ext q (suc n) f g h = ext_step n (filter q (down n)) f g (h n (omega arith)) (map_kept_ext q n f g (λ x l. h x (omega arith))) (q n)

map_step : (n : ℕ) (K : List ℕ) → ((cs : List ℕ) → length cs ≡ length K → map (lookup K cs) K ≡ cs)
    → ((f g : ℕ → ℕ) → ((x : ℕ) → x < n → f x ≡ g x) → map f K ≡ map g K)
    → (b : Bool) (cs : List ℕ) → length cs ≡ length (cond b (n ∷ K) K) → map (lookup (cond b (n ∷ K) K) cs) (cond b (n ∷ K) K) ≡ cs
map_step n K ih ext true [] h = absurd (omega arith)
map_step n K ih ext true (c ∷ cs) h =
    ap₂ {C = List ℕ} ◌∷◌ (lookup_here n K c cs)
    (ext (lookup (n ∷ K) (c ∷ cs)) (lookup K cs) (λ x l. lookup_other n K c cs x (λ e. omega arith)) ∙ ih cs (omega arith))
map_step n K ih ext false cs h = ih cs h

pub map_lookup : (q : ℕ → Bool) (n : ℕ) (cs : List ℕ) → length cs ≡ length (filter q (down n))
    → map (lookup (filter q (down n)) cs) (filter q (down n)) ≡ cs
map_lookup q zero [] h = refl
map_lookup q zero (c ∷ cs) h = absurd (omega arith)
map_lookup q (suc n) cs h = map_step n (filter q (down n)) (map_lookup q n) (map_kept_ext q n) (q n) cs h

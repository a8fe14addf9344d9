-- What is found for each admitted monomial, written into the front of a buffer one after the other, in prefix order.
use Rattle.std.proofs.Common.{◌≡◌, ℕ, ◌+◌, ◌<◌, ◌≤◌, List, [], ◌∷◌, ◌++◌, map, length, take, drop, set, sym, refl, ap, ◌∙◌, ap₂, arith}
use Rattle.std.proofs.lemmas.List.{take_more_set, drop-set-lt, append_assoc, append-nil, take-append-drop}
use Rattle.polynomials.specs.Monomials.{monomials}
use Rattle.polynomials.specs.Binomials.{dimension}
use Rattle.polynomials.proofs.Counting.{monomials_counted}

-- with these monomials left: what is written so far and what is left to find is all, and the buffer's further places are as they were
pub record Gathering (m r : ℕ) (find : ℕ → ℕ) (before after left : List ℕ) (next : ℕ) : Type 0 where
  pub front : take next after ++ map find left ≡ map find (monomials m r)
  pub long : next + length left ≡ dimension m r
  pub rest : drop (dimension m r) after ≡ drop (dimension m r) before

pub gathering_none : (m r : ℕ) (find : ℕ → ℕ) (before left : List ℕ) → left ≡ monomials m r → Gathering m r find before before left 0
gathering_none m r find before left e = record {
  front = ap (map find) e;
  long = omega (arith, ap length e, monomials_counted m r);
  rest = refl;
}

pub gathering_front : (m r : ℕ) (find : ℕ → ℕ) (before after left : List ℕ) (next : ℕ) → Gathering m r find before after left next → left ≡ []
    → take (dimension m r) after ≡ map find (monomials m r)
gathering_front m r find before after left next h none =
    let e : dimension m r ≡ next = omega (arith, h.long, ap length none) in
    ap (λ n. take n after) e ∙ sym (append-nil (take next after)) ∙ ap (λ t. take next after ++ map find t) (sym none) ∙ h.front

pub gathering_all : (m r : ℕ) (find : ℕ → ℕ) (before after left : List ℕ) (next : ℕ) → Gathering m r find before after left next → left ≡ []
    → after ≡ map find (monomials m r) ++ drop (dimension m r) before
gathering_all m r find before after left next h none =
    sym (take-append-drop (dimension m r) after) ∙ ap₂ {C = List ℕ} ◌++◌ (gathering_front m r find before after left next h none) h.rest

module _ (m r : ℕ) (find : ℕ → ℕ) (before after left : List ℕ) (next : ℕ) (h : Gathering m r find before after left next) (mono : ℕ) (later : List ℕ) (e : left ≡ mono ∷ later) where
  pub gathering_within : next < dimension m r
  gathering_within = omega (arith, ap length e, h.long)

  pub gathering_more : (b : ℕ) → b ≡ find mono → dimension m r ≤ length after → Gathering m r find before (set after next b) later (next + 1)
  gathering_more b is long =
      let within : next < dimension m r = gathering_within in
      record {
        front =
            ap (λ t. t ++ map find later) (take_more_set after next b (omega arith))
            ∙ append_assoc (take next after) (b ∷ []) (map find later)
            ∙ ap (λ t. take next after ++ t ∷ map find later) is
            ∙ ap (λ t. take next after ++ map find t) (sym e)
            ∙ h.front;
        long = omega (arith, ap length e, h.long);
        rest = drop-set-lt (dimension m r) after next b within ∙ h.rest;
      }

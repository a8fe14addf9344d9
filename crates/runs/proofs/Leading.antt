-- Each call leads a reader on: where it stood as a run had led it, it stands as the longer run leads it, and next obeys its law.
use Rattle.std.proofs.Common.{◌≡◌, ℕ, ◌≤◌, List, [], ◌∷◌, ◌++◌, map, reverse, length, take, drop, ℤ, Some, None, Ok, filter, Option, sym, refl, ap, ◌∙◌, subst, ap₂, arith}
use Rattle.std.specs.List.{AllByRecursion}
use Rattle.std.proofs.lemmas.List.{take_at}
use Rattle.std.proofs.ByRecursion.{all_kept_by}
use Rattle.polynomials.specs.Binomials.{dimension}
use Rattle.polynomials.specs.Messages.{Bits}
use Rattle.words.specs.Refusals.{Told}
use Rattle.cells.specs.Readings.{Reading, weight_or_0}
use Rattle.rules.specs.Rules.{Rule, cost_of}
use Rattle.listings.specs.Order.{first}
use Rattle.listings.specs.Entering.{follows}
use Rattle.listings.specs.Listing.{Telling, word, end, listing, next_after, telling, count_of, filled}
use Rattle.listings.proofs.Ordering.{within_sized}
use Rattle.listings.proofs.Handing.{following_rest, first_remaining_follows, one_more_handed}
use Rattle.runs.specs.Traces.{Shape, Call, set_call, radius_call, load_call, rewind_call, next_call, refused, done, listed, event, Trace, shape_of, radius_of, weights_of, message_in, handed_of}
use Rattle.runs.specs.Rows.{next_row}
use Rattle.runs.specs.CallLaws.{next_new, Hands, NextLaw}
use Rattle.runs.specs.States.{State, new, set_to, with_radius, with_weights, rewound, moved, Begun, LedTo}
use Rattle.runs.proofs.Choosing.{ready_no_row}

pub led_new : LedTo [] new
led_new = record { shape = refl; radius = refl; weights = refl; last = refl; begun = refl }

-- a refusal changes nothing
pub led_refused : (h : Trace) (s : State) (call : Call) (t : Told) (after : List ℕ) → LedTo h s → LedTo (event call (refused t) after ∷ h) s
led_refused h s (set_call m r T) t after l = record { shape = l.shape; radius = l.radius; weights = l.weights; last = l.last; begun = l.begun }
led_refused h s (radius_call T) t after l = record { shape = l.shape; radius = l.radius; weights = l.weights; last = l.last; begun = l.begun }
led_refused h s (load_call readings) t after l = record { shape = l.shape; radius = l.radius; weights = l.weights; last = l.last; begun = l.begun }
led_refused h s rewind_call t after l = record { shape = l.shape; radius = l.radius; weights = l.weights; last = l.last; begun = l.begun }
led_refused h s (next_call rule before) t after l = record { shape = l.shape; radius = l.radius; weights = l.weights; last = l.last; begun = l.begun }

-- ---- the starts

at_start : (shape : Option Shape) (T : ℕ) (weights : Option (List ℤ)) → Begun shape T weights []
at_start None T weights = refl
at_start (Some s) T None = refl
at_start (Some s) T (Some ws) = (listing s.m s.r ws T, refl)

pub led_set : (h : Trace) (m r T : ℕ) (after : List ℕ) → LedTo (event (set_call m r T) done after ∷ h) (set_to m r T)
led_set h m r T after = record { shape = refl; radius = refl; weights = refl; last = refl; begun = refl }

pub led_radius : (h : Trace) (s : State) (T : ℕ) (after : List ℕ) → LedTo h s → LedTo (event (radius_call T) done after ∷ h) (with_radius T s)
led_radius h s T after l = record { shape = l.shape; radius = refl; weights = l.weights; last = refl; begun = at_start (shape_of h) T (weights_of h) }

weights_read : (ws : List ℤ) → map weight_or_0 (map Ok ws) ≡ ws
weights_read [] = refl
weights_read (w ∷ ws) = ap (λ vs. w ∷ vs) (weights_read ws)

pub led_load : (h : Trace) (s : State) (readings : List Reading) (ws : List ℤ) (after : List ℕ) → readings ≡ map Ok ws → LedTo h s
    → LedTo (event (load_call readings) done after ∷ h) (with_weights ws s)
led_load h s readings ws after all l = record {
  shape = l.shape;
  radius = l.radius;
  weights = ap Some (sym (ap (map weight_or_0) all ∙ weights_read ws));
  last = refl;
  begun = at_start (shape_of h) (radius_of h) (Some (map weight_or_0 readings));
}

pub led_rewind : (h : Trace) (s : State) (after : List ℕ) → LedTo h s → LedTo (event rewind_call done after ∷ h) (rewound s)
led_rewind h s after l = record { shape = l.shape; radius = l.radius; weights = l.weights; last = refl; begun = at_start (shape_of h) (radius_of h) (weights_of h) }

-- ---- next

pub next_refused : (shape : Option Shape) (T : ℕ) (weights : Option (List ℤ)) (handed : List (List ℕ)) (rule : Rule) (before : List ℕ) (t : Told)
    → Some t ≡ next_row shape weights (length before) → NextLaw shape T weights handed rule before (refused t) before
next_refused shape T weights handed rule before t e = record {
  refuses = λ u f. (let same : u ≡ t = let g = f in cc in ap refused (sym same), refl);
  accepts = λ s ws set loaded fits. none s ws (sym (ready_no_row s ws (length before) fits) ∙ ap₂ (λ x y. next_row x y (length before)) (sym set) (sym loaded) ∙ sym e);
}
  where
    none : {P : Type 0} (s : Shape) (ws : List ℤ) → None ≡ Some t → P
    none s ws f = let z : ◌≡◌ {A = ℕ} 0 1 = cc in absurd (omega arith)

module _ (h : Trace) (s : State) (l : LedTo h s) (shape : Shape) (ws : List ℤ) (set : s.shape ≡ Some shape) (loaded : s.weights ≡ Some ws) where
  abbrev m : ℕ
  m = shape.m

  abbrev r : ℕ
  r = shape.r

  set_after : shape_of h ≡ Some shape
  set_after = sym l.shape ∙ set

  loaded_after : weights_of h ≡ Some ws
  loaded_after = sym l.weights ∙ loaded

  so_far : (rest : List (List ℕ)) × (listing m r ws (radius_of h) ≡ reverse (handed_of h) ++ rest)
  so_far = rw (set_after, loaded_after) at l.begun

  -- what a reader looks for, after the last message, is the first message not yet handed out
  abbrev pub found : Option (List ℕ)
  found = next_after m r ws s.radius s.last

  found_is_new : found ≡ next_new m r ws (radius_of h) (handed_of h)
  found_is_new =
      ap₂ (next_after m r ws) l.radius l.last
      ∙ sym (first_remaining_follows (dimension m r) (cost_of m r ws) (radius_of h) (handed_of h) so_far.0 so_far.1)

  -- a message that is found is of k bits
  pub found_sized : (w : List ℕ) → found ≡ Some w → Bits w × (length w ≡ dimension m r)
  found_sized w e = first_all (filter (follows s.last) (listing m r ws s.radius)) (all_kept_by _ _ _ (within_sized (dimension m r) (cost_of m r ws) s.radius)) e
    where
      first_all : (xs : List (List ℕ)) → AllByRecursion (λ v. Bits v × (length v ≡ dimension m r)) xs → first xs ≡ Some w → Bits w × (length w ≡ dimension m r)
      first_all [] a f = let z : ◌≡◌ {A = ℕ} 0 1 = cc in absurd (omega arith)
      first_all (x ∷ xs) a f = let same : x ≡ w = cc in subst (λ v. Bits v × (length v ≡ dimension m r)) same a.0

  module _ (rule : Rule) (before : List ℕ) (told : Telling) (after : List ℕ) where
    module _ (tells : told ≡ telling m r ws s.radius rule s.last found) (writes : after ≡ filled found before) where
      hands : Hands m r ws (radius_of h) (handed_of h) rule before (listed told) after
      hands = record {
        tells =
            ap listed (tells ∙ ap₂ (λ T last. telling m r ws T rule last found) l.radius l.last
            ∙ ap (telling m r ws (radius_of h) rule (first (handed_of h))) found_is_new);
        writes = writes ∙ ap (λ f. filled f before) found_is_new;
      }

      -- the law of an accepted next
      pub next_accepted : dimension m r ≤ length before → NextLaw (shape_of h) (radius_of h) (weights_of h) (handed_of h) rule before (listed told) after
      next_accepted fits = record { refuses = λ t e. no_row t e; accepts = λ s' ws' e f g. same_hands s' ws' e f }
        where
          no_row : {P : Type 0} (t : Told) → next_row (shape_of h) (weights_of h) (length before) ≡ Some t → P
          no_row t e =
              let f : None ≡ Some t = sym (ready_no_row shape ws (length before) fits) ∙ ap₂ (λ x y. next_row x y (length before)) (sym set_after) (sym loaded_after) ∙ e in
              let z : ◌≡◌ {A = ℕ} 0 1 = cc in absurd (omega arith)

          same_hands : (s' : Shape) (ws' : List ℤ) → shape_of h ≡ Some s' → weights_of h ≡ Some ws'
              → Hands s'.m s'.r ws' (radius_of h) (handed_of h) rule before (listed told) after
          same_hands s' ws' e f =
              let sizes : shape ≡ s' = let g = set_after in cc in
              let cells : ws ≡ ws' = let g = loaded_after in cc in
              subst (λ x. Hands x.m x.r ws' (radius_of h) (handed_of h) rule before (listed told) after) sizes
              (subst (λ x. Hands m r x (radius_of h) (handed_of h) rule before (listed told) after) cells hands)

    -- where none is left the place stays
    at_end : (n : ℕ) → told ≡ end n → LedTo (event (next_call rule before) (listed told) after ∷ h) s
    at_end n e =
        subst (λ t. LedTo (event (next_call rule before) (listed t) after ∷ h) s) (sym e)
        (record { shape = l.shape; radius = l.radius; weights = l.weights; last = l.last; begun = l.begun })

    -- a message that is handed out is the last one from there on
    one_further : (w : List ℕ) (c n : ℕ) → found ≡ Some w → told ≡ word c n → after ≡ w ++ drop (length w) before
        → LedTo (event (next_call rule before) (listed told) after ∷ h) (moved (Some w) s)
    one_further w c n is e writes =
        subst (λ t. LedTo (event (next_call rule before) (listed t) after ∷ h) (moved (Some w) s)) (sym e)
        (record { shape = l.shape; radius = l.radius; weights = l.weights; last = ap Some (sym front); begun = begun })
      where
        front : message_in (shape_of h) after ≡ w
        front = ap (λ x. message_in x after) set_after ∙ ap (take (dimension m r)) writes ∙ take_at w (drop (length w) before) (dimension m r) (found_sized w is).1

        next_rest : first so_far.0 ≡ Some w
        next_rest =
            ap first (sym (following_rest (dimension m r) (cost_of m r ws) (radius_of h) (handed_of h) so_far.0 so_far.1))
            ∙ ap₂ (next_after m r ws) (sym l.radius) (sym l.last) ∙ is

        more : Begun (Some shape) (radius_of h) (Some ws) (w ∷ handed_of h)
        more = one_more_handed (dimension m r) (cost_of m r ws) (radius_of h) (handed_of h) so_far.0 so_far.1 w next_rest

        begun : Begun (shape_of h) (radius_of h) (weights_of h) (message_in (shape_of h) after ∷ handed_of h)
        begun = rw (front, set_after, loaded_after) more

    pub led_next : told ≡ telling m r ws s.radius rule s.last found → after ≡ filled found before
        → LedTo (event (next_call rule before) (listed told) after ∷ h) (moved found s)
    led_next tells writes = by found refl tells writes
      where
        by : (o : Option (List ℕ)) → found ≡ o → told ≡ telling m r ws s.radius rule s.last o → after ≡ filled o before
            → LedTo (event (next_call rule before) (listed told) after ∷ h) (moved o s)
        by None is t w = at_end (count_of m r ws s.radius rule s.last None) t
        by (Some v) is t w = one_further v (cost_of m r ws v) (count_of m r ws s.radius rule s.last (Some v)) is t w

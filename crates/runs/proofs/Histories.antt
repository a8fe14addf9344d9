-- After any run that has led to a reader, a call that answers and leaves behind what it should obeys its law, and the longer run leads to what is left.
use Rattle.std.proofs.Common.{◌≡◌, ℕ, ◌≤◌, List, [], ◌∷◌, length, ℤ, Some, None, Ok, Err, Option, Result, sym, ap, ◌∙◌, subst, ap₂, inl, inr, arith, MatchResult}
use Rattle.polynomials.specs.Binomials.{dimension}
use Rattle.words.specs.Refusals.{Told, told, refusal_of}
use Rattle.words.specs.declared.refusals.Refusal.{Refusal}
use Rattle.cells.specs.Readings.{Reading, Weighed}
use Rattle.rules.specs.Rules.{Rule}
use Rattle.listings.specs.Listing.{Telling}
use Rattle.runs.specs.Traces.{Shape, Call, set_call, radius_call, load_call, rewind_call, next_call, refused, done, listed, event, Trace, shape_of, radius_of, weights_of, handed_of}
use Rattle.runs.specs.Answers.{answered, done_or}
use Rattle.runs.specs.Rows.{set_row, radius_row, load_row, rewind_row, next_row}
use Rattle.runs.specs.CallLaws.{settled, SetLaw, RadiusLaw, LoadLaw, RewindLaw, NextLaw}
use Rattle.runs.specs.States.{State, set_to, with_radius, with_weights, rewound, Finds, LedTo}
use Rattle.runs.proofs.Choosing.{row_or_ready}
use Rattle.runs.proofs.Leading.{led_refused, led_set, led_radius, led_load, led_rewind, next_refused, next_accepted, led_next}

-- a call that tells nothing is done or refused as the first row says
settles : {X : Type 0} (a : Result X Refusal) (first : Option Told) → refusal_of a ≡ first → done_or a ≡ settled first
settles (Ok x) first e = ap settled e
settles (Err refusal) first e = ap settled e

-- where such a call is refused nothing changes, and where it is done it leads on
leads : {X : Type 0} (h : Trace) (s later : State) (call : Call) (P : X → Type 0) (a : Result X Refusal) → LedTo h s
    → ((x : X) → P x → LedTo (event call done [] ∷ h) later) → MatchResult a P (λ _. later ≡ s) → LedTo (event call (done_or a) [] ∷ h) later
leads h s later call P (Ok x) l on p = on x p
leads h s later call P (Err refusal) l on same =
    subst (LedTo (event call (refused (told refusal)) [] ∷ h)) (sym same) (led_refused h s call (told refusal) [] l)

module _ {X : Type 0} (h : Trace) (s later : State) (a : Result X Refusal) (l : LedTo h s) where
  pub set_history : (m r T : ℕ) → refusal_of a ≡ set_row m r T → MatchResult a (λ _. later ≡ set_to m r T) (λ _. later ≡ s)
      → SetLaw m r T (done_or a) × LedTo (event (set_call m r T) (done_or a) [] ∷ h) later
  set_history m r T row state = (
    settles a (set_row m r T) row,
    leads h s later (set_call m r T) (λ _. later ≡ set_to m r T) a l (λ _ e. subst (LedTo (event (set_call m r T) done [] ∷ h)) (sym e) (led_set h m r T [])) state,
  )

  pub radius_history : (T : ℕ) → refusal_of a ≡ radius_row s.shape T → MatchResult a (λ _. later ≡ with_radius T s) (λ _. later ≡ s)
      → RadiusLaw (shape_of h) T (done_or a) × LedTo (event (radius_call T) (done_or a) [] ∷ h) later
  radius_history T row state = (
    settles a (radius_row (shape_of h) T) (row ∙ ap (λ shape. radius_row shape T) l.shape),
    leads h s later (radius_call T) (λ _. later ≡ with_radius T s) a l (λ _ e. subst (LedTo (event (radius_call T) done [] ∷ h)) (sym e) (led_radius h s T [] l)) state,
  )

  pub load_history : (readings : List Reading) → refusal_of a ≡ load_row s.shape readings
      → MatchResult a (λ _. (weights : List ℤ) × Weighed readings weights × (later ≡ with_weights weights s)) (λ _. later ≡ s)
      → LoadLaw (shape_of h) readings (done_or a) × LedTo (event (load_call readings) (done_or a) [] ∷ h) later
  load_history readings row state = (
    settles a (load_row (shape_of h) readings) (row ∙ ap (λ shape. load_row shape readings) l.shape),
    leads h s later (load_call readings) (λ _. (weights : List ℤ) × Weighed readings weights × (later ≡ with_weights weights s)) a l
        (λ _ e. subst (LedTo (event (load_call readings) done [] ∷ h)) (sym e.2) (led_load h s readings e.0 [] e.1 l)) state,
  )

  pub rewind_history : refusal_of a ≡ rewind_row s.shape s.weights → MatchResult a (λ _. later ≡ rewound s) (λ _. later ≡ s)
      → RewindLaw (shape_of h) (weights_of h) (done_or a) × LedTo (event rewind_call (done_or a) [] ∷ h) later
  rewind_history row state = (
    settles a (rewind_row (shape_of h) (weights_of h)) (row ∙ ap₂ rewind_row l.shape l.weights),
    leads h s later rewind_call (λ _. later ≡ rewound s) a l (λ _ e. subst (LedTo (event rewind_call done [] ∷ h)) (sym e) (led_rewind h s [] l)) state,
  )

-- where no row holds at next there is room
room_enough : (s : State) (shape : Shape) (cells : List ℤ) (room : ℕ) → s.shape ≡ Some shape → s.weights ≡ Some cells
    → None ≡ next_row s.shape s.weights room → dimension shape.m shape.r ≤ room
room_enough s shape cells room set loaded none =
    elim (row_or_ready s.shape s.weights room) [
      | inl t ↦ let e : None ≡ Some t.0 = none ∙ t.1 in let z : ◌≡◌ {A = ℕ} 0 1 = cc in absurd (omega arith)
      | inr y ↦ let same : y.sizes ≡ shape = let e = sym y.set ∙ set in cc in subst (λ z. dimension z.m z.r ≤ room) same y.fits
    ]

pub next_history : {X : Type 0} (tell : X → Telling) (h : Trace) (s later : State) (a : Result X Refusal) (rule : Rule) (before after : List ℕ)
    → refusal_of a ≡ next_row s.shape s.weights (length before)
    → MatchResult a (λ x. Finds s rule before (tell x) after later) (λ _. (later ≡ s) × (after ≡ before)) → LedTo h s
    → NextLaw (shape_of h) (radius_of h) (weights_of h) (handed_of h) rule before (answered (λ x. listed (tell x)) a) after
    × LedTo (event (next_call rule before) (answered (λ x. listed (tell x)) a) after ∷ h) later
next_history tell h s later (Ok x) rule before after row f l = (
  next_accepted h s l f.shape f.cells f.set f.loaded rule before (tell x) after f.tells f.writes
      (room_enough s f.shape f.cells (length before) f.set f.loaded row),
  subst (LedTo (event (next_call rule before) (listed (tell x)) after ∷ h)) (sym f.moves)
      (led_next h s l f.shape f.cells f.set f.loaded rule before (tell x) after f.tells f.writes),
)
next_history tell h s later (Err refusal) rule before after row same l = (
  subst (NextLaw (shape_of h) (radius_of h) (weights_of h) (handed_of h) rule before (refused (told refusal))) (sym same.1)
      (next_refused (shape_of h) (radius_of h) (weights_of h) (handed_of h) rule before (told refusal)
      (row ∙ ap₂ (λ shape weights. next_row shape weights (length before)) l.shape l.weights)),
  subst (LedTo (event (next_call rule before) (refused (told refusal)) after ∷ h)) (sym same.0)
      (led_refused h s (next_call rule before) (told refusal) after l),
)

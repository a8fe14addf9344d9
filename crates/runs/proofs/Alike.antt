-- Lawful runs with the same calls, apart from estimates, answer alike, apart from counts; and a rule that is nowhere lower enters and counts no more.
use Rattle.std.proofs.Common.{◌≡◌, ℕ, ◌≤◌, true, false, cond, List, [], ◌∷◌, map, length, ℤ, Some, None, Option, sym, refl, ap, ◌∙◌, subst, ap₂, inl, inr, arith}
use Rattle.polynomials.specs.Binomials.{dimension}
use Rattle.words.specs.Refusals.{Told}
use Rattle.rules.specs.Rules.{Rule}
use Rattle.listings.specs.Order.{first}
use Rattle.listings.specs.Listing.{word, end, telling, count_of}
use Rattle.listings.proofs.Entries.{fewer_entered}
use Rattle.runs.specs.Traces.{Shape, Call, set_call, radius_call, load_call, rewind_call, next_call, Answer, refused, done, listed, waiting, Event, event, Trace, accepted, shape_after, shape_of, radius_after, radius_of, weights_after, weights_of, message_in, handed_by, handed_after, handed_of}
use Rattle.runs.specs.CallLaws.{next_new, NextLaw}
use Rattle.runs.specs.Law.{LawOf, Law}
use Rattle.runs.specs.Alike.{call_apart, told_apart, answer_apart, call_of, event_apart, rule_of, count_told, count_in, FewerAt, Alike}
use Rattle.runs.proofs.Choosing.{row_or_ready}

-- ---- what is in force can be told from a run apart from its estimates and counts

accepted_apart : (answer : Answer) → accepted (answer_apart answer) ≡ accepted answer
accepted_apart (refused t) = refl
accepted_apart done = refl
accepted_apart (listed told) = refl
accepted_apart waiting = refl

handed_by_apart : (answer : Answer) (message : List ℕ) (before : List (List ℕ)) → handed_by (answer_apart answer) message before ≡ handed_by answer message before
handed_by_apart (refused t) message before = refl
handed_by_apart done message before = refl
handed_by_apart (listed (word cost count)) message before = refl
handed_by_apart (listed (end count)) message before = refl
handed_by_apart waiting message before = refl

shape_apart : (h : Trace) → shape_of (map event_apart h) ≡ shape_of h
shape_apart [] = refl
shape_apart (event call answer after ∷ h) = ap₂ (shape_after (call_apart call)) (accepted_apart answer) (shape_apart h) ∙ same call
  where
    same : (call : Call) → shape_after (call_apart call) (accepted answer) (shape_of h) ≡ shape_after call (accepted answer) (shape_of h)
    same (set_call m r T) = refl
    same (radius_call T) = refl
    same (load_call readings) = refl
    same rewind_call = refl
    same (next_call rule before) = refl

radius_apart : (h : Trace) → radius_of (map event_apart h) ≡ radius_of h
radius_apart [] = refl
radius_apart (event call answer after ∷ h) = ap₂ (radius_after (call_apart call)) (accepted_apart answer) (radius_apart h) ∙ same call
  where
    same : (call : Call) → radius_after (call_apart call) (accepted answer) (radius_of h) ≡ radius_after call (accepted answer) (radius_of h)
    same (set_call m r T) = refl
    same (radius_call T) = refl
    same (load_call readings) = refl
    same rewind_call = refl
    same (next_call rule before) = refl

weights_apart : (h : Trace) → weights_of (map event_apart h) ≡ weights_of h
weights_apart [] = refl
weights_apart (event call answer after ∷ h) = ap₂ (weights_after (call_apart call)) (accepted_apart answer) (weights_apart h) ∙ same call
  where
    same : (call : Call) → weights_after (call_apart call) (accepted answer) (weights_of h) ≡ weights_after call (accepted answer) (weights_of h)
    same (set_call m r T) = refl
    same (radius_call T) = refl
    same (load_call readings) = refl
    same rewind_call = refl
    same (next_call rule before) = refl

handed_after_apart : (call : Call) (answer : Answer) (message : List ℕ) (before : List (List ℕ))
    → handed_after (call_apart call) (answer_apart answer) message before ≡ handed_after call answer message before
handed_after_apart (set_call m r T) answer message before = ap (λ ok. cond ok [] before) (accepted_apart answer)
handed_after_apart (radius_call T) answer message before = ap (λ ok. cond ok [] before) (accepted_apart answer)
handed_after_apart (load_call readings) answer message before = ap (λ ok. cond ok [] before) (accepted_apart answer)
handed_after_apart rewind_call answer message before = ap (λ ok. cond ok [] before) (accepted_apart answer)
handed_after_apart (next_call rule bytes) answer message before = handed_by_apart answer message before

handed_apart : (h : Trace) → handed_of (map event_apart h) ≡ handed_of h
handed_apart [] = refl
handed_apart (event call answer after ∷ h) =
    ap₂ (λ shape handed. handed_after (call_apart call) (answer_apart answer) (message_in shape after) handed) (shape_apart h) (handed_apart h)
    ∙ handed_after_apart call answer (message_in (shape_of h) after) (handed_of h)

-- the same is in force after two runs
record SameForce (h k : Trace) : Type 0 where
  shape : shape_of k ≡ shape_of h
  radius : radius_of k ≡ radius_of h
  weights : weights_of k ≡ weights_of h
  handed : handed_of k ≡ handed_of h

same_force : (h k : Trace) → map event_apart k ≡ map event_apart h → SameForce h k
same_force h k e = record {
  shape = sym (shape_apart k) ∙ ap shape_of e ∙ shape_apart h;
  radius = sym (radius_apart k) ∙ ap radius_of e ∙ radius_apart h;
  weights = sym (weights_apart k) ∙ ap weights_of e ∙ weights_apart h;
  handed = sym (handed_apart k) ∙ ap handed_of e ∙ handed_apart h;
}

back : (h k : Trace) → SameForce h k → SameForce k h
back h k s = record { shape = sym s.shape; radius = sym s.radius; weights = sym s.weights; handed = sym s.handed }

-- ---- the law leaves one answer and one buffer to a call, apart from counts

told_alike : (m r : ℕ) (weights : List ℤ) (T : ℕ) (rule other : Rule) (last found : Option (List ℕ))
    → told_apart (telling m r weights T rule last found) ≡ told_apart (telling m r weights T other last found)
told_alike m r weights T rule other last None = refl
told_alike m r weights T rule other last (Some message) = refl

module _ (shape : Option Shape) (T : ℕ) (weights : Option (List ℤ)) (handed : List (List ℕ)) (rule other : Rule) (before : List ℕ) where
  one_next : (a b : Answer) (after later : List ℕ)
      → NextLaw shape T weights handed rule before a after → NextLaw shape T weights handed other before b later
      → (answer_apart b ≡ answer_apart a) × (later ≡ after)
  one_next a b after later p q =
      elim (row_or_ready shape weights (length before)) [
        | inl t ↦
            let x = p.refuses t.0 t.1 in
            let y = q.refuses t.0 t.1 in
            (ap answer_apart (y.0 ∙ sym x.0), y.1 ∙ sym x.1)
        | inr ok ↦
            let x = p.accepts ok.sizes ok.cells ok.set ok.loaded ok.fits in
            let y = q.accepts ok.sizes ok.cells ok.set ok.loaded ok.fits in (
              ap answer_apart y.tells
                  ∙ ap listed (told_alike ok.sizes.m ok.sizes.r ok.cells T other rule (first handed) (next_new ok.sizes.m ok.sizes.r ok.cells T handed))
                  ∙ sym (ap answer_apart x.tells),
              y.writes ∙ sym x.writes,
            )
      ]

force_next : (h k : Trace) → SameForce h k → (rule : Rule) (before : List ℕ) (answer : Answer) (after : List ℕ)
    → NextLaw (shape_of k) (radius_of k) (weights_of k) (handed_of k) rule before answer after
    → NextLaw (shape_of h) (radius_of h) (weights_of h) (handed_of h) rule before answer after
force_next h k s rule before answer after p = rw (s.shape, s.radius, s.weights, s.handed) at p

-- the law of an event with some rule in the place of its own
abbrev SomeLaw : Trace → Call → Answer → List ℕ → Type 0
SomeLaw h (set_call m r T) answer after = LawOf h (event (set_call m r T) answer after)
SomeLaw h (radius_call T) answer after = LawOf h (event (radius_call T) answer after)
SomeLaw h (load_call readings) answer after = LawOf h (event (load_call readings) answer after)
SomeLaw h rewind_call answer after = LawOf h (event rewind_call answer after)
SomeLaw h (next_call any before) answer after =
    (rule : Rule) × NextLaw (shape_of h) (radius_of h) (weights_of h) (handed_of h) rule before answer after

some_law : (h : Trace) (call : Call) (answer : Answer) (after : List ℕ) → LawOf h (event call answer after) → SomeLaw h (call_apart call) answer after
some_law h (set_call m r T) answer after p = p
some_law h (radius_call T) answer after p = p
some_law h (load_call readings) answer after p = p
some_law h rewind_call answer after p = p
some_law h (next_call rule before) answer after p = (rule, p)

module _ (h k : Trace) (s : SameForce h k) where
  settles : (a b c : Answer) (after later : List ℕ) → (a ≡ c) × (after ≡ []) → (b ≡ c) × (later ≡ []) → (answer_apart b ≡ answer_apart a) × (later ≡ after)
  settles a b c after later p q = (ap answer_apart (q.0 ∙ sym p.0), q.1 ∙ sym p.1)

  one_answer : (call : Call) (a b : Answer) (after later : List ℕ) → SomeLaw h call a after → SomeLaw k call b later
      → (answer_apart b ≡ answer_apart a) × (later ≡ after)
  one_answer (set_call m r T) a b after later p q = settles a b _ after later p q
  one_answer (radius_call T) a b after later p q = settles a b _ after later p (rw s.shape at q)
  one_answer (load_call readings) a b after later p q = settles a b _ after later p (rw s.shape at q)
  one_answer rewind_call a b after later p q = settles a b _ after later p (rw (s.shape, s.weights) at q)
  one_answer (next_call any before) a b after later p q =
      one_next (shape_of h) (radius_of h) (weights_of h) (handed_of h) p.0 q.0 before a b after later p.1 (force_next h k s q.0 before b later q.1)

  one_event : (x y : Event) → call_of y ≡ call_of x → LawOf h x → LawOf k y → event_apart y ≡ event_apart x
  one_event (event c a after) (event d b later) e p q =
      let r = one_answer (call_apart c) a b after later (some_law h c a after p)
      (subst (λ call. SomeLaw k call b later) e (some_law k d b later q)) in
      let answers = r.0 in
      let buffers = r.1 in
      cc

-- ---- fewer entries and no higher count under a rule that is nowhere lower

absurd_option : {X P : Type 0} (x : X) → ◌≡◌ {A = Option X} None (Some x) → P
absurd_option x e = let z : ◌≡◌ {A = ℕ} 0 1 = cc in absurd (omega arith)

-- an event that brings a rule is a next
record NextEvent (h : Trace) (call : Call) (answer : Answer) (after : List ℕ) (rule : Rule) : Type 0 where
  before : List ℕ
  lawful : NextLaw (shape_of h) (radius_of h) (weights_of h) (handed_of h) rule before answer after

next_event : (h : Trace) (call : Call) (answer : Answer) (after : List ℕ) (rule : Rule) → rule_of call ≡ Some rule → LawOf h (event call answer after)
    → NextEvent h call answer after rule
next_event h (set_call m r T) answer after rule e p = absurd_option rule e
next_event h (radius_call T) answer after rule e p = absurd_option rule e
next_event h (load_call readings) answer after rule e p = absurd_option rule e
next_event h rewind_call answer after rule e p = absurd_option rule e
next_event h (next_call own before) answer after rule e p =
    let same : own ≡ rule = cc in
    record { before = before; lawful = subst (λ x. NextLaw (shape_of h) (radius_of h) (weights_of h) (handed_of h) x before answer after) same p }

not_refused : {P : Type 0} (answer : Answer) (t : Told) → answer ≡ refused t → accepted answer ≡ true → P
not_refused answer t e ok = let z : false ≡ true = sym (ap accepted e) ∙ ok in let n : ◌≡◌ {A = ℕ} 0 1 = cc in absurd (omega arith)

told_count : (m r : ℕ) (weights : List ℤ) (T : ℕ) (rule : Rule) (last found : Option (List ℕ))
    → count_told (telling m r weights T rule last found) ≡ count_of m r weights T rule last found
told_count m r weights T rule last None = refl
told_count m r weights T rule last (Some message) = refl

-- the count of an accepted next
counts : (h : Trace) (call : Call) (answer : Answer) (after : List ℕ) (rule : Rule) (shape : Shape) (weights : List ℤ)
    → NextEvent h call answer after rule → shape_of h ≡ Some shape → weights_of h ≡ Some weights → accepted answer ≡ true
    → count_in answer ≡ count_of shape.m shape.r weights (radius_of h) rule (first (handed_of h)) (next_new shape.m shape.r weights (radius_of h) (handed_of h))
counts h call answer after rule shape weights n set loaded ok =
    elim (row_or_ready (shape_of h) (weights_of h) (length n.before)) [
      | inl t ↦ not_refused answer t.0 (n.lawful.refuses t.0 t.1).0 ok
      | inr y ↦
          let sizes : y.sizes ≡ shape = let e = sym y.set ∙ set in cc in
          let fits = subst (λ z. dimension z.m z.r ≤ length n.before) sizes y.fits in
          ap count_in (n.lawful.accepts shape weights set loaded fits).tells
          ∙ told_count shape.m shape.r weights (radius_of h) rule (first (handed_of h)) (next_new shape.m shape.r weights (radius_of h) (handed_of h))
    ]

-- both are accepted or neither is
accepted_alike : (a b : Answer) → answer_apart b ≡ answer_apart a → accepted a ≡ true → accepted b ≡ true
accepted_alike a b e ok = sym (accepted_apart b) ∙ ap accepted e ∙ accepted_apart a ∙ ok

fewer_at : (h k : Trace) → SameForce h k → (c : Call) (a : Answer) (after : List ℕ) (d : Call) (b : Answer) (later : List ℕ)
    → answer_apart b ≡ answer_apart a → LawOf h (event c a after) → LawOf k (event d b later) → FewerAt h c a d b
fewer_at h k s c a after d b later same p q rule other brings brings-other ok shape weights set loaded lower =
    let f = fewer_entered shape.m shape.r weights (radius_of h) rule other (first (handed_of h)) (next_new shape.m shape.r weights (radius_of h) (handed_of h)) lower in
    let x = counts h c a after rule shape weights (next_event h c a after rule brings p) set loaded ok in
    let n = next_event k d b later other brings-other q in
    let n' : NextEvent h d b later other = record { before = n.before; lawful = force_next h k s other n.before b later n.lawful } in
    let y = counts h d b later other shape weights n' set loaded (accepted_alike a b same ok) in
    (f.0, omega (arith, f.1, x, y))

-- ---- the runs as a whole

pub all_alike : (h : Trace) → Law h → Alike h
all_alike [] p [] q e = (refl, tt, tt)
all_alike [] p (y ∷ k) q e = let z : ◌≡◌ {A = ℕ} 0 1 = cc in absurd (omega arith)
all_alike (x ∷ h) p [] q e = let z : ◌≡◌ {A = ℕ} 0 1 = cc in absurd (omega arith)
all_alike (event c a after ∷ h) p (event d b later ∷ k) q e =
    let heads : call_apart d ≡ call_apart c = cc in
    let tails : map call_of k ≡ map call_of h = cc in
    let rest = all_alike h p.1 k q.1 tails in
    let s = same_force h k rest.0 in
    let here : event_apart (event d b later) ≡ event_apart (event c a after) = one_event h k s (event c a after) (event d b later) heads p.0 q.0 in
    let same : answer_apart b ≡ answer_apart a = cc in
    let all = rest.0 in
    (cc, (fewer_at h k s c a after d b later same p.0 q.0, rest.1), (fewer_at k h (back h k s) d b later c a after (sym same) q.0 p.0, rest.2))

-- Two runs whose calls differ in nothing but their estimates.
use Rattle.std.specs.Prelude.{◌≡◌, ℕ, ◌≤◌, true, List, [], ◌∷◌, map, length, ℤ, Some, None, Option}
use Rattle.polynomials.specs.Binomials.{dimension}
use Rattle.polynomials.specs.Messages.{Bits}
use Rattle.rules.specs.Rules.{Rule, NowhereLower, plain}
use Rattle.listings.specs.Order.{first}
use Rattle.listings.specs.Entering.{follows, entered}
use Rattle.listings.specs.Listing.{Telling, word, end}
use Rattle.runs.specs.Traces.{Shape, Call, set_call, radius_call, load_call, rewind_call, next_call, Answer, refused, done, listed, waiting, Event, event, Trace, accepted, shape_of, radius_of, weights_of, handed_of}
use Rattle.runs.specs.CallLaws.{next_new}
use Rattle.runs.specs.Law.{Law}

-- a call apart from its estimate
abbrev pub call_apart : Call → Call
call_apart (set_call m r T) = set_call m r T
call_apart (radius_call T) = radius_call T
call_apart (load_call readings) = load_call readings
call_apart rewind_call = rewind_call
call_apart (next_call rule before) = next_call plain before

-- what next told, apart from its count
abbrev pub told_apart : Telling → Telling
told_apart (word cost count) = word cost 0
told_apart (end count) = end 0

-- an answer apart from its count
abbrev pub answer_apart : Answer → Answer
answer_apart (refused t) = refused t
answer_apart done = done
answer_apart (listed told) = listed (told_apart told)
answer_apart waiting = waiting

-- the call of an event, apart from its estimate
abbrev pub call_of : Event → Call
call_of (event call answer after) = call_apart call

-- an event apart from its estimate and its count
abbrev pub event_apart : Event → Event
event_apart (event call answer after) = event (call_apart call) (answer_apart answer) after

-- the rule that a call brings
abbrev pub rule_of : Call → Option Rule
rule_of (set_call m r T) = None
rule_of (radius_call T) = None
rule_of (load_call readings) = None
rule_of rewind_call = None
rule_of (next_call rule before) = Some rule

-- the count that next told
abbrev pub count_told : Telling → ℕ
count_told (word cost count) = count
count_told (end count) = count

-- the count in an answer
abbrev pub count_in : Answer → ℕ
count_in (refused t) = 0
count_in done = 0
count_in (listed told) = count_told told
count_in waiting = 0

-- a next after this run, with this rule, enters this prefix
abbrev pub EntersAfter : Trace → Shape → List ℤ → Rule → List ℕ → Type 0
EntersAfter h shape weights rule v =
    entered (dimension shape.m shape.r) (rule shape.m shape.r weights) (radius_of h) (follows (first (handed_of h)))
    (next_new shape.m shape.r weights (radius_of h) (handed_of h)) v ≡ true

-- where an accepted next after this run brings a rule that is nowhere lower than that of another, it enters no prefix that the other does not enter, and
-- its count is no higher
abbrev pub FewerAt : Trace → Call → Answer → Call → Answer → Type 0
FewerAt h call answer other_call other_answer =
    (rule other : Rule) → rule_of call ≡ Some rule → rule_of other_call ≡ Some other → accepted answer ≡ true
    → (shape : Shape) (weights : List ℤ) → shape_of h ≡ Some shape → weights_of h ≡ Some weights → NowhereLower shape.m shape.r weights rule other
    → ((v : List ℕ) → Bits v → length v ≤ dimension shape.m shape.r → EntersAfter h shape weights rule v → EntersAfter h shape weights other v)
    × (count_in answer ≤ count_in other_answer)

-- the same of each event of a run and its counterpart in another
abbrev pub Fewer : Trace → Trace → Type 0
Fewer [] k = Unit {0}
Fewer (e ∷ h) [] = Unit {0}
Fewer (event call answer after ∷ h) (event other_call other_answer other_after ∷ k) = FewerAt h call answer other_call other_answer × Fewer h k

-- every lawful run with the same calls, apart from estimates, answers alike, apart from counts; and where the estimate of one is nowhere lower, that one
-- enters no more prefixes and counts no more
abbrev pub Alike : Trace → Type 0
Alike h = (k : Trace) → Law k → map call_of k ≡ map call_of h → (map event_apart k ≡ map event_apart h) × Fewer h k × Fewer k h

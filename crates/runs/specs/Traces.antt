-- Traces: the calls that a new reader got, each with its arguments, its answer and its buffer; and what is in force after them.
use Rattle.std.specs.Prelude.{ℕ, Bool, true, false, if◌then◌else◌, List, [], ◌∷◌, map, take, ℤ, Some, None, Option}
use Rattle.polynomials.specs.Binomials.{dimension}
use Rattle.words.specs.Refusals.{Told}
use Rattle.cells.specs.Readings.{Reading, weight_or_0}
use Rattle.rules.specs.Rules.{Rule}
use Rattle.listings.specs.Listing.{Telling, word, end}

-- the number of variables and the order
pub record Shape : Type 0 where
  pub m : ℕ
  pub r : ℕ

-- a call with its arguments: cells by their readings, an estimate by its rule, a buffer by the bytes that it holds before the call
pub data Call : Type 0 where
  set_call : ℕ → ℕ → ℕ → Call
  radius_call : ℕ → Call
  load_call : List Reading → Call
  rewind_call : Call
  next_call : Rule → List ℕ → Call

-- the answer to a call: the row that refused it; that it was done; what next told; none where the call has not been made
pub data Answer : Type 0 where
  refused : Told → Answer
  done : Answer
  listed : Telling → Answer
  waiting : Answer

-- a call, its answer, and the bytes of its buffer after it
pub data Event : Type 0 where
  event : Call → Answer → List ℕ → Event

-- the events of a reader that was new before them, the newest first
abbrev pub Trace : Type 0
Trace = List Event

-- whether a call with this answer was accepted
abbrev pub accepted : Answer → Bool
accepted (refused t) = false
accepted done = true
accepted (listed told) = true
accepted waiting = false

-- the number of variables and the order after a call, by those before it and by whether it was accepted
abbrev pub shape_after : Call → Bool → Option Shape → Option Shape
shape_after (set_call m r T) ok before = if ok then Some (record { m = m; r = r }) else before
shape_after (radius_call T) ok before = before
shape_after (load_call readings) ok before = before
shape_after rewind_call ok before = before
shape_after (next_call rule bytes) ok before = before

-- the number of variables and the order in force: those of the last accepted set
abbrev pub shape_of : Trace → Option Shape
shape_of [] = None
shape_of (event call answer after ∷ h) = shape_after call (accepted answer) (shape_of h)

-- the radius after a call
abbrev pub radius_after : Call → Bool → ℕ → ℕ
radius_after (set_call m r T) ok before = if ok then T else before
radius_after (radius_call T) ok before = if ok then T else before
radius_after (load_call readings) ok before = before
radius_after rewind_call ok before = before
radius_after (next_call rule bytes) ok before = before

-- the radius in force: that of the last accepted set or radius
abbrev pub radius_of : Trace → ℕ
radius_of [] = 0
radius_of (event call answer after ∷ h) = radius_after call (accepted answer) (radius_of h)

-- the weights after a call
abbrev pub weights_after : Call → Bool → Option (List ℤ) → Option (List ℤ)
weights_after (set_call m r T) ok before = if ok then None else before
weights_after (radius_call T) ok before = before
weights_after (load_call readings) ok before = if ok then Some (map weight_or_0 readings) else before
weights_after rewind_call ok before = before
weights_after (next_call rule bytes) ok before = before

-- the weights in force: those of the last accepted load, where there was one after the last accepted set
abbrev pub weights_of : Trace → Option (List ℤ)
weights_of [] = None
weights_of (event call answer after ∷ h) = weights_after call (accepted answer) (weights_of h)

-- the message in front of a buffer
abbrev pub message_in : Option Shape → List ℕ → List ℕ
message_in None bytes = []
message_in (Some shape) bytes = take (dimension shape.m shape.r) bytes

-- the messages handed out, and one more where next told of a word
abbrev pub handed_by : Answer → List ℕ → List (List ℕ) → List (List ℕ)
handed_by (refused t) message before = before
handed_by done message before = before
handed_by (listed (word cost count)) message before = message ∷ before
handed_by (listed (end count)) message before = before
handed_by waiting message before = before

-- the messages handed out after a call, by its answer, by the message that its buffer has in front, and by those before it
abbrev pub handed_after : Call → Answer → List ℕ → List (List ℕ) → List (List ℕ)
handed_after (set_call m r T) answer message before = if accepted answer then [] else before
handed_after (radius_call T) answer message before = if accepted answer then [] else before
handed_after (load_call readings) answer message before = if accepted answer then [] else before
handed_after rewind_call answer message before = if accepted answer then [] else before
handed_after (next_call rule bytes) answer message before = handed_by answer message before

-- the messages handed out since the last start, the newest first; a start is an accepted set, radius, load or rewind
abbrev pub handed_of : Trace → List (List ℕ)
handed_of [] = []
handed_of (event call answer after ∷ h) = handed_after call answer (message_in (shape_of h) after) (handed_of h)

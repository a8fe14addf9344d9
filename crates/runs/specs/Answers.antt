-- The answers of calls, as a trace has them.
use Rattle.std.specs.Prelude.{Ok, Err, Result}
use Rattle.words.specs.Refusals.{told}
use Rattle.words.specs.declared.refusals.Refusal.{Refusal}
use Rattle.runs.specs.Traces.{Answer, refused, done}

-- the answer of a call: what it accepted with, or the row that its refusal tells
abbrev pub answered : {X : Type 0} → (X → Answer) → Result X Refusal → Answer
answered accepts (Ok x) = accepts x
answered accepts (Err refusal) = refused (told refusal)

-- the answer of a call that tells nothing
abbrev pub done_or : {X : Type 0} → Result X Refusal → Answer
done_or answer = answered (λ _. done) answer

-- A mark whose cost is answered is a table.
use Rattle.std.proofs.Common.{◌≡◌, ℕ, ◌^◌, not, eqb, ltb, List, length, ℤ, None, Ok, Err, IfOk, Result, sym}
use Rattle.std.proofs.lemmas.Bool.{eqb-true, not-false}
use Rattle.polynomials.specs.Words.{Table}
use Rattle.polynomials.proofs.Choosing.{no_row}
use Rattle.words.specs.declared.refusals.Refusal.{Refusal}
use Rattle.words.specs.Refusals.{refusal_of}
use Rattle.words.proofs.Rows.{no_byte_row}
use Rattle.cells.specs.Costs.{cost_row}

-- a word that no row of cost refuses is a table
table_accepted : (m : ℕ) (weights : List ℤ) (word : List ℕ) → cost_row m weights word ≡ None → Table m word
table_accepted m weights word e =
    let n = no_row (not (eqb (length word) (2 ^ m))) _ _ (no_row (not (eqb (length weights) (2 ^ m))) _ _ (no_row (ltb 8 m) _ _ e).1).1 in
    record { long = eqb-true (length word) (2 ^ m) (not-false _ n.0); bits = no_byte_row 0 word n.1 }

-- and so is one whose cost is answered
pub table_paid : (m : ℕ) (weights : List ℤ) (word : List ℕ) (answer : Result ℕ Refusal) → refusal_of answer ≡ cost_row m weights word
    → IfOk answer (λ _. Table m word)
table_paid m weights word (Ok paid) e = table_accepted m weights word (sym e)
table_paid m weights word (Err refusal) e = tt

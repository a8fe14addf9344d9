-- The rows of load where the reader is set and there are as many cells as points.
use Rattle.std.proofs.Common.{◌≡◌, ℕ, ◌^◌, ◌≤◌, not, List, map, length, Some, sym, ap, ◌∙◌, arith}
use Rattle.std.proofs.lemmas.List.{length-map}
use Rattle.std.proofs.lemmas.Bool.{eq-eqb, le-ltb, cond-false}
use Rattle.cells.specs.Readings.{Reading, cell_row, weigh_row}
use Rattle.runs.specs.Traces.{Shape}
use Rattle.runs.specs.Rows.{load_row}

module _ {C : Type 0} (reading : C → Reading) (cells : List C) (shape : Shape) (n : ℕ) (points : n ≡ 2 ^ shape.m) where
  many : length (map reading cells) ≡ length cells
  many = length-map cells reading

  -- as many cells as points, for which there is always room: the first cell that has no weight
  pub right_count : (room : ℕ) → length cells ≡ n → n ≤ room → weigh_row (map reading cells) room ≡ load_row (Some shape) (map reading cells)
  right_count room long fits =
      cond-false _ _ _ (le-ltb room (length (map reading cells)) (omega (arith, many)))
      ∙ sym (cond-false _ _ (cell_row 0 (map reading cells)) (ap not (eq-eqb (length (map reading cells)) (2 ^ shape.m) (many ∙ long ∙ points))))

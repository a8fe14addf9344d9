use Rattle.std.proofs.Common.{◌≡◌, map, drop}
use Rattle.cells.specs.Readings.{cell_row}
use Rattle.cells.proofs.weighing.check_cells.Given as goal

-- the answer is that for the cells left
abbrev pub invariant-loop-place : goal.invariant-loop-place
invariant-loop-place g l = cell_row l.place-counter (map g.C.Cell.reading (drop l.place-counter l.cells)) ≡ cell_row 0 (map g.C.Cell.reading l.cells)

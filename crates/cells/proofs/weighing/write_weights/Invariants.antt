use Rattle.std.proofs.Common.{◌≡◌, ◌++◌, map, take, drop}
use Rattle.cells.specs.Readings.{weight_or_0}
use Rattle.cells.proofs.weighing.write_weights.Given as goal

-- the weights of the cells so far stand in front, and the rest is as before
abbrev pub invariant-loop-place : goal.invariant-loop-place
invariant-loop-place g l = l.weights ≡ map (λ cell. weight_or_0 (g.C.Cell.reading cell)) (take l.place l.cells) ++ drop l.place l.initial.weights

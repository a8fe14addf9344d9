use Rattle.std.proofs.Common.{◌≡◌, ◌++◌, map, take, drop}
use Rattle.lines.specs.Pieces.{digit}
use Rattle.lines.proofs.pieces.put_bits.Given as goal

-- the digits so far, and then the bits after them
abbrev pub invariant-loop-cell : goal.invariant-loop-cell
invariant-loop-cell l = l.cell-items ≡ map digit (take l.cell-index l.bits) ++ drop l.cell-index l.bits

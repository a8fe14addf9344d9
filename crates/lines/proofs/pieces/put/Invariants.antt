use Rattle.std.proofs.Common.{◌≡◌, ◌++◌, length, take, drop}
use Rattle.lines.specs.Pieces.{text}
use Rattle.lines.proofs.pieces.put.Given as goal

-- the buffer holds the pieces so far, and then its further bytes
abbrev pub invariant-loop-piece : goal.invariant-loop-piece
invariant-loop-piece l = (l.end ≡ length (text (take l.piece-index l.pieces))) × (l.line ≡ text (take l.piece-index l.pieces) ++ drop l.end l.initial.line)

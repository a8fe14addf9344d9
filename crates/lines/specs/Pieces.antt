-- The pieces of a line, and their bytes.
use Rattle.std.specs.Prelude.{ℕ, List, if◌then◌else◌, ◌==◌, map, decimal}
use Rattle.std.specs.List.{flat_map}
use Rattle.lines.specs.declared.pieces.Piece.{Piece}
use Rattle.lines.specs.declared.pieces.Piece.TheVariants.{Bytes, Bits, Number}

-- a bit as a digit
abbrev pub digit : ℕ → ℕ
digit b = if b == 0 then 48 else 49

-- the bytes of a piece
abbrev pub bytes_of : Piece → List ℕ
bytes_of (Bytes bytes) = bytes.now
bytes_of (Bits bits) = map digit bits.now
bytes_of (Number n) = decimal n

-- the bytes of the pieces, one piece after the other
abbrev pub text : List Piece → List ℕ
text pieces = flat_map bytes_of pieces

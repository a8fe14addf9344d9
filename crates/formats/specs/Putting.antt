-- Bytes put over others.
use Rattle.std.specs.Prelude.{ℕ, ◌+◌, List, ◌++◌, length, take, drop}

-- these bytes with others put over them from a place on
abbrev pub over : ℕ → List ℕ → List ℕ → List ℕ
over place new bytes = take place bytes ++ (new ++ drop (place + length new) bytes)

-- the part of some bytes that begins at a place and is so long
abbrev pub part : ℕ → ℕ → List ℕ → List ℕ
part place long bytes = take long (drop place bytes)

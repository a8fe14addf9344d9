-- The rows by which a patch file and its packed cells are refused: plain numbers.
use Rattle.std.specs.Prelude.{ℕ, ◌^◌, if◌then◌else◌, not, List, length, Some, None, Ok, Err, Option, Result, ◌==◌, nat_lt}
use Rattle.formats.specs.Packing.{bytes_needed}
use Rattle.formats.specs.Patch.{unused_row}

-- the row that refuses a call, by its answer; none where it was accepted
abbrev pub row_of : {X : Type 0} → Result X ℕ → Option ℕ
row_of (Ok x) = None
row_of (Err row) = Some row

-- the first row that holds at unpack, with room for so many cells
abbrev pub unpack_row : ℕ → List ℕ → ℕ → Option ℕ
unpack_row m bytes room =
    if nat_lt 8 m then Some 1
    else if not (length bytes == bytes_needed (2 ^ m)) then Some 6
    else if nat_lt room (2 ^ m) then Some 7
    else unused_row m bytes

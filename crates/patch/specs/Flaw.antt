-- The rows of what is wrong with a patch file, or with packed cells.
use Rattle.std.specs.Prelude.{ℕ, Some, None, Ok, Err, Option, Result}
use Rattle.patch.specs.declared.flaw.Flaw.{Flaw}
use Rattle.patch.specs.declared.flaw.Flaw.TheVariants.{Variables, Order, Radius, Count, Room, FileLength, Places, UnusedBit}

-- the number of the row that a flaw is
abbrev pub flaw_row : Flaw → ℕ
flaw_row Variables = 1
flaw_row Order = 2
flaw_row Radius = 3
flaw_row Count = 6
flaw_row Room = 7
flaw_row FileLength = 13
flaw_row Places = 14
flaw_row UnusedBit = 15

-- the row that a check has found; none where it has found no flaw
abbrev pub row_found : {X : Type 0} → Result X Flaw → Option ℕ
row_found (Ok x) = None
row_found (Err flaw) = Some (flaw_row flaw)

-- Readings: what a kind of cell says of each cell, and the first row that a list of them gives.
use Rattle.std.specs.Prelude.{◌≡◌, ℕ, ◌+◌, ◌≤◌, List, [], ◌∷◌, map, length, ℤ, pos, IfOk, Some, None, Ok, Err, Option, Result, unsigned_abs}
use Rattle.std.specs.Result.{result_unwrap_or}
use Rattle.words.specs.declared.refusals.Fault.{Fault}
use Rattle.words.specs.Refusals.{Told, room_row, told_at}

-- the weight of a cell, or its fault
abbrev pub Reading : Type 0
Reading = Result ℤ Fault

-- the weight that a reading gives, and 0 where it gives a fault
abbrev pub weight_or_0 : Reading → ℤ
weight_or_0 reading = result_unwrap_or reading (pos 0)

-- a weight lies from -127 to 127
abbrev pub InRange : Reading → Type 0
InRange reading = IfOk reading (λ w. unsigned_abs w ≤ 127)

-- rows 8 and 9: the first cell that has no weight, where the first of the cells stands at this place
abbrev pub cell_row : ℕ → List Reading → Option Told
cell_row place [] = None
cell_row place (Ok w ∷ later) = cell_row (place + 1) later
cell_row place (Err fault ∷ later) = Some (told_at place fault)

-- the first row that holds at weigh, with room for so many weights
abbrev pub weigh_row : List Reading → ℕ → Option Told
weigh_row readings room = room_row room (length readings) (cell_row 0 readings)

-- every cell has a weight, and these are the weights
abbrev pub Weighed : List Reading → List ℤ → Type 0
Weighed readings weights = readings ≡ map Ok weights

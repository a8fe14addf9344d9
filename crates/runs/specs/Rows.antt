-- The first row that holds at each call of a reader.
use Rattle.std.specs.Prelude.{ℕ, ◌^◌, if◌then◌else◌, not, List, length, ℤ, Some, None, Option, ◌==◌, nat_lt}
use Rattle.polynomials.specs.Binomials.{dimension}
use Rattle.words.specs.Refusals.{Told, row, size_row, room_row}
use Rattle.cells.specs.Readings.{Reading, cell_row}
use Rattle.runs.specs.Traces.{Shape}

-- row 3, a radius above 32,512, and then the rows after it
abbrev pub wide_row : ℕ → Option Told → Option Told
wide_row T later = if nat_lt 32512 T then Some (row 3) else later

-- row 4, a reader that is not set, and then the rows after it, by the sizes that are set
abbrev pub unset_row : Option Shape → (Shape → Option Told) → Option Told
unset_row None later = Some (row 4)
unset_row (Some shape) later = later shape

-- row 5, a reader without cells, and then the rows after it
abbrev pub empty_row : Option (List ℤ) → Option Told → Option Told
empty_row None later = Some (row 5)
empty_row (Some weights) later = later

-- the first row that holds at set
abbrev pub set_row : ℕ → ℕ → ℕ → Option Told
set_row m r T = size_row m r (wide_row T None)

-- the first row that holds at radius
abbrev pub radius_row : Option Shape → ℕ → Option Told
radius_row shape T = wide_row T (unset_row shape (λ _. None))

-- the first row that holds at load: as many cells as points, and then the first cell that has no weight
abbrev pub load_row : Option Shape → List Reading → Option Told
load_row shape readings = unset_row shape (λ s. if not (length readings == 2 ^ s.m) then Some (row 6) else cell_row 0 readings)

-- the first row that holds at rewind
abbrev pub rewind_row : Option Shape → Option (List ℤ) → Option Told
rewind_row shape weights = unset_row shape (λ _. empty_row weights None)

-- the first row that holds at next, with room for so many bytes
abbrev pub next_row : Option Shape → Option (List ℤ) → ℕ → Option Told
next_row shape weights room = unset_row shape (λ s. empty_row weights (room_row room (dimension s.m s.r) None))

-- A patch file as it is written, and that it reads back.
use Rattle.std.specs.Prelude.{◌≡◌, ℕ, ◌/◌, ◌%◌, ◌^◌, ◌<◌, ◌≤◌, true, List, [], ◌∷◌, length, None}
use Rattle.std.specs.List.{AllByRecursion}
use Rattle.polynomials.specs.Words.{Table}
use Rattle.formats.specs.Putting.{over}
use Rattle.formats.specs.Packing.{bytes_needed, packed, unpacked}
use Rattle.formats.specs.Patch.{placed, variables, order, radius, place_of_cells, place_of_name, cell_bytes, name_bytes, patch_row, Says}

-- a number in two bytes, the high one first
abbrev pub two : ℕ → List ℕ → List ℕ
two n later = n / 256 ∷ n % 256 ∷ later

-- the twelve bytes of the header
abbrev pub header : ℕ → ℕ → ℕ → ℕ → ℕ → ℕ → ℕ → List ℕ
header m r T count cells_place name_length name_place = m ∷ r ∷ two T (two count (two cells_place (two name_length (two name_place []))))

-- the patch written over some bytes, its cells and its name at these places
abbrev pub written : List ℕ → ℕ → ℕ → ℕ → List ℕ → ℕ → List ℕ → ℕ → List ℕ
written bytes m r T cells cells_place name name_place =
    over 0 (header m r T (2 ^ m) cells_place (length name) name_place) (over cells_place (packed cells) (over name_place name bytes))

-- it is lawful to write this over the bytes: the sizes are in their ranges, there is a cell for each point, and the sections are placed in the file
pub record Writable (bytes : List ℕ) (m r T : ℕ) (cells : List ℕ) (cells_place : ℕ) (name : List ℕ) (name_place : ℕ) : Type 0 where
  pub header_fits : 12 ≤ length bytes
  pub short : length bytes ≤ 4096
  pub few : m ≤ 8
  pub low : r ≤ m
  pub near : T ≤ 32512
  pub table : Table m cells
  pub sections : placed (length bytes) cells_place (bytes_needed (2 ^ m)) name_place (length name) ≡ true

-- a file that is lawfully written says what was written, at the places where it was written
abbrev pub WrittenReadsBack : Type 0
WrittenReadsBack =
    (bytes : List ℕ) (m r T : ℕ) (cells : List ℕ) (cells_place : ℕ) (name : List ℕ) (name_place : ℕ)
    → Writable bytes m r T cells cells_place name name_place
    → Says (written bytes m r T cells cells_place name name_place) m r T cells name
    × (place_of_cells (written bytes m r T cells cells_place name name_place) ≡ cells_place)
    × (place_of_name (written bytes m r T cells cells_place name name_place) ≡ name_place)

-- a file that is accepted is one that is lawfully written: writing what it says over it is lawful, and changes no byte
abbrev pub ReadWritesBack : Type 0
ReadWritesBack =
    (file : List ℕ) → AllByRecursion (λ b. b < 256) file → patch_row file ≡ None
    → Writable file (variables file) (order file) (radius file) (unpacked (2 ^ variables file) (cell_bytes file)) (place_of_cells file) (name_bytes file) (place_of_name file)
    × (written file (variables file) (order file) (radius file) (unpacked (2 ^ variables file) (cell_bytes file)) (place_of_cells file) (name_bytes file) (place_of_name file) ≡ file)

-- The patch file: what its bytes say, and the first row that refuses it.
use Rattle.std.specs.Prelude.{◌≡◌, ℕ, ◌+◌, ◌*◌, ◌^◌, min, max, Bool, if◌then◌else◌, not, ◌&&◌, List, length, Some, None, Option, ◌==◌, nat_le, nat_lt, slice_index}
use Rattle.formats.specs.Putting.{part}
use Rattle.formats.specs.Packing.{bytes_needed, unpacked, unused}

-- the number of the two bytes at a place, the high one first
abbrev pub pair_at : List ℕ → ℕ → ℕ
pair_at file place = 256 * slice_index file place + slice_index file (place + 1)

-- m, the number of variables
abbrev pub variables : List ℕ → ℕ
variables file = slice_index file 0

-- r, the order
abbrev pub order : List ℕ → ℕ
order file = slice_index file 1

-- T, the radius
abbrev pub radius : List ℕ → ℕ
radius file = pair_at file 2

-- the number of cells
abbrev pub count : List ℕ → ℕ
count file = pair_at file 4

-- where the cells begin
abbrev pub place_of_cells : List ℕ → ℕ
place_of_cells file = pair_at file 6

-- how long the roll's name is
abbrev pub length_of_name : List ℕ → ℕ
length_of_name file = pair_at file 8

-- where the name begins
abbrev pub place_of_name : List ℕ → ℕ
place_of_name file = pair_at file 10

-- the bytes that hold the cells
abbrev pub cell_bytes : List ℕ → List ℕ
cell_bytes file = part (place_of_cells file) (bytes_needed (2 ^ variables file)) file

-- the bytes of the name
abbrev pub name_bytes : List ℕ → List ℕ
name_bytes file = part (place_of_name file) (length_of_name file) file

-- a section lies behind the header and within a file of so many bytes
abbrev pub lies : ℕ → ℕ → ℕ → Bool
lies size place long = nat_le 12 place && nat_le (place + long) size

-- two sections, each by its place and its length, share a byte: the later beginning comes before the earlier end
abbrev pub share : ℕ → ℕ → ℕ → ℕ → Bool
share place long place' long' = nat_lt (max place place') (min (place + long) (place' + long'))

-- two sections of a file of so many bytes each lie in it, and share no byte
abbrev pub placed : ℕ → ℕ → ℕ → ℕ → ℕ → Bool
placed size place long place' long' = lies size place long && lies size place' long' && not (share place long place' long')

-- row 13, the file's length, and then the rows after it
abbrev pub length_row : List ℕ → Option ℕ → Option ℕ
length_row file later = if not (nat_le 12 (length file) && nat_le (length file) 4096) then Some 13 else later

-- the rows of the file's length, its sizes and its places, and then the rows after them
abbrev pub header_row : List ℕ → Option ℕ → Option ℕ
header_row file later =
    length_row file
    (if nat_lt 8 (variables file) then Some 1
    else if nat_lt (variables file) (order file) then Some 2
    else if nat_lt 32512 (radius file) then Some 3
    else if not (count file == 2 ^ variables file) then Some 6
    else if not (placed (length file) (place_of_cells file) (bytes_needed (2 ^ variables file)) (place_of_name file) (length_of_name file)) then Some 14
    else later)

-- row 15: an unused bit of the last byte of the cells of m variables is 1
abbrev pub unused_row : ℕ → List ℕ → Option ℕ
unused_row m bytes = if not (unused (2 ^ m) bytes == 0) then Some 15 else None

-- the first row that refuses the file
abbrev pub patch_row : List ℕ → Option ℕ
patch_row file = header_row file (unused_row (variables file) (cell_bytes file))

-- the file is accepted, and says m, r, T, the cells and the name
pub record Says (file : List ℕ) (m r T : ℕ) (cells name : List ℕ) : Type 0 where
  pub accepted : patch_row file ≡ None
  pub m_is : variables file ≡ m
  pub r_is : order file ≡ r
  pub t_is : radius file ≡ T
  pub cells_are : unpacked (2 ^ m) (cell_bytes file) ≡ cells
  pub name_is : name_bytes file ≡ name

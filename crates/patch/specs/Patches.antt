-- The patch that is read from a file.
use Rattle.std.specs.Prelude.{◌≡◌, ℕ, List, map}
use Rattle.formats.specs.Patch as format
use Rattle.cells.specs.declared.bit.Bit.{Bit}
use Rattle.patch.specs.declared.header.Header.{Header}
use Rattle.patch.specs.declared.reading.Patch.{Patch}

-- the numbers in the header of a file
abbrev pub header_of : List ℕ → Header
header_of file = record {
  variables = format.variables file;
  order = format.order file;
  radius = format.radius file;
  count = format.count file;
  cells_at = format.place_of_cells file;
  name_length = format.length_of_name file;
  name_at = format.place_of_name file;
}

-- the patch holds the file itself, the numbers in its header, the bytes of its cells and those of its name
pub record IsOf (bytes : List ℕ) (patch : Patch) : Type 0 where
  pub file_is : patch.file.now ≡ bytes
  pub header_is : patch.header ≡ header_of bytes
  pub cells_are : patch.cells.now ≡ format.cell_bytes bytes
  pub name_is : patch.name.now ≡ format.name_bytes bytes

-- bits as cells
abbrev pub as_cells : List ℕ → List Bit
as_cells bits = map (λ b. record { byte = b }) bits

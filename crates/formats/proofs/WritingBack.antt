-- An accepted patch file is one that is lawfully written: writing what it says over it is lawful, and changes no byte.
use Rattle.std.proofs.Common.{◌≡◌, ℕ, ◌+◌, ◌/◌, ◌%◌, ◌^◌, ◌<◌, List, ◌∷◌, map, length, get_or, drop, None, sym, refl, ap, ◌∙◌, arith}
use Rattle.std.specs.List.{AllByRecursion, range_with_len}
use Rattle.std.proofs.lemmas.List.FromFn.{fill_by_all}
use Rattle.std.proofs.ByRecursion.{All-get_or, All-take, All-drop}
use Rattle.formats.specs.Putting.{over, part}
use Rattle.formats.specs.Packing.{bytes_needed, packed, unpacked}
use Rattle.formats.specs.Patch.{placed, pair_at, variables, order, radius, place_of_cells, length_of_name, place_of_name, cell_bytes, name_bytes, patch_row}
use Rattle.formats.specs.Writing.{two, header, written, Writable, ReadWritesBack}
use Rattle.formats.proofs.Parts.{length_part, get_or_part, over_part}
use Rattle.formats.proofs.Packing.{length_unpacked, unpacked_bits, packed_unpacked}
use Rattle.formats.proofs.Accepting.{Apart, placed_apart, Lawful, accepted_lawful}

module _ (file : List ℕ) (small : AllByRecursion (λ b. b < 256) file) (accepted : patch_row file ≡ None) where
  lawful : Lawful file
  lawful = accepted_lawful file accepted

  apart : Apart (length file) (place_of_cells file) (bytes_needed (2 ^ variables file)) (place_of_name file) (length_of_name file)
  apart = placed_apart (length file) (place_of_cells file) (bytes_needed (2 ^ variables file)) (place_of_name file) (length_of_name file) lawful.sections

  length_name : length (name_bytes file) ≡ length_of_name file
  length_name = length_part (place_of_name file) (length_of_name file) file apart.within'

  -- a number that two bytes of the file say is written as these two
  two_same : (n place : ℕ) (later rest : List ℕ) → place + 1 < length file → n ≡ pair_at file place → later ≡ rest
      → two n later ≡ get_or file place 0 ∷ get_or file (place + 1) 0 ∷ rest
  two_same n place later rest within e same =
      let low : get_or file (place + 1) 0 < 256 = All-get_or (λ b. b < 256) file (place + 1) 0 within small in
      let first : n / 256 ≡ get_or file place 0 = omega arith in
      let second : n % 256 ≡ get_or file (place + 1) 0 = omega arith in
      cc

  abbrev head : List ℕ
  head = header (variables file) (order file) (radius file) (2 ^ variables file) (place_of_cells file) (length (name_bytes file)) (place_of_name file)

  first_twelve : part 0 12 file ≡ map (λ i. get_or file i 0) (range_with_len 0 12)
  first_twelve =
      fill_by_all (λ i. get_or file i 0) (part 0 12 file) 12 0 (length_part 0 12 file lawful.header_fits)
      (λ i l. get_or_part 0 12 file i l ∙ ap (λ k. get_or file k 0) (omega arith))

  head_same : head ≡ part 0 12 file
  head_same =
      let long = lawful.header_fits in
      ap (λ later. variables file ∷ order file ∷ later)
      (two_same (radius file) 2 _ _ (omega arith) refl
      (two_same (2 ^ variables file) 4 _ _ (omega arith) (sym lawful.counted)
      (two_same (place_of_cells file) 6 _ _ (omega arith) refl
      (two_same (length (name_bytes file)) 8 _ _ (omega arith) length_name
      (two_same (place_of_name file) 10 _ _ (omega arith) refl refl)))))
      ∙ sym first_twelve

  cells_same : packed (unpacked (2 ^ variables file) (cell_bytes file)) ≡ cell_bytes file
  cells_same =
      packed_unpacked (2 ^ variables file) (cell_bytes file)
      (length_part (place_of_cells file) (bytes_needed (2 ^ variables file)) file apart.within)
      (All-take (λ b. b < 256) (bytes_needed (2 ^ variables file)) (drop (place_of_cells file) file) (All-drop (λ b. b < 256) (place_of_cells file) file small))
      lawful.clean

  unchanged : written file (variables file) (order file) (radius file) (unpacked (2 ^ variables file) (cell_bytes file)) (place_of_cells file) (name_bytes file) (place_of_name file)
      ≡ file
  unchanged =
      ap (λ bytes. over 0 head (over (place_of_cells file) (packed (unpacked (2 ^ variables file) (cell_bytes file))) bytes))
      (over_part (place_of_name file) (length_of_name file) file apart.within')
      ∙ ap (λ new. over 0 head (over (place_of_cells file) new file)) cells_same
      ∙ ap (over 0 head) (over_part (place_of_cells file) (bytes_needed (2 ^ variables file)) file apart.within)
      ∙ ap (λ new. over 0 new file) head_same
      ∙ over_part 0 12 file lawful.header_fits

  writable : Writable file (variables file) (order file) (radius file) (unpacked (2 ^ variables file) (cell_bytes file)) (place_of_cells file) (name_bytes file) (place_of_name file)
  writable = record {
    header_fits = lawful.header_fits;
    short = lawful.short;
    few = lawful.few;
    low = lawful.low;
    near = lawful.near;
    table = record { long = length_unpacked (2 ^ variables file) (cell_bytes file); bits = unpacked_bits (2 ^ variables file) (cell_bytes file) };
    sections = ap (placed (length file) (place_of_cells file) (bytes_needed (2 ^ variables file)) (place_of_name file)) length_name ∙ lawful.sections;
  }

pub read_writes_back : ReadWritesBack
read_writes_back file small accepted = (writable file small accepted, unchanged file small accepted)

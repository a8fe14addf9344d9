-- A patch file written with lawful sizes and places says what was written.
use Rattle.std.proofs.Common.{◌≡◌, ℕ, ◌+◌, ◌^◌, ◌<◌, ◌≤◌, true, ◌⊎◌, List, length, sym, refl, ap, ◌∙◌, ap₂, inl, inr, arith}
use Rattle.std.proofs.lemmas.Nat.{pow_pos}
use Rattle.std.proofs.lemmas.Bool.{cases_lt}
use Rattle.polynomials.specs.Words.{Table}
use Rattle.formats.specs.Putting.{over, part}
use Rattle.formats.specs.Packing.{bytes_needed, packed, unpacked, unused}
use Rattle.formats.specs.Patch.{placed, place_of_cells, length_of_name, place_of_name, cell_bytes, name_bytes, Says}
use Rattle.formats.specs.Writing.{header, WrittenReadsBack}
use Rattle.formats.proofs.Putting.{length_over}
use Rattle.formats.proofs.Parts.{part_over_same, part_over_other}
use Rattle.formats.proofs.Packing.{length_packed, unpacked_packed, unused_packed}
use Rattle.formats.proofs.Accepting.{Apart, placed_apart, lawful_accepted}

module _ (bytes : List ℕ) (m r T : ℕ) (cells : List ℕ) (cells_place : ℕ) (name : List ℕ) (name_place : ℕ) (header_fits : 12 ≤ length bytes) (table : Table m cells)
    (lawful : placed (length bytes) cells_place (bytes_needed (2 ^ m)) name_place (length name) ≡ true) where
  apart : Apart (length bytes) cells_place (bytes_needed (2 ^ m)) name_place (length name)
  apart = placed_apart (length bytes) cells_place (bytes_needed (2 ^ m)) name_place (length name) lawful

  -- the bytes with the name over them, the cells over these, and the header over all
  abbrev named : List ℕ
  named = over name_place name bytes

  abbrev filled : List ℕ
  filled = over cells_place (packed cells) named

  abbrev head : List ℕ
  head = header m r T (2 ^ m) cells_place (length name) name_place

  abbrev file : List ℕ
  file = over 0 head filled

  length_cells : length (packed cells) ≡ bytes_needed (2 ^ m)
  length_cells = length_packed cells ∙ ap bytes_needed table.long

  length_named : length named ≡ length bytes
  length_named = length_over name_place name bytes apart.within'

  cells_fit : cells_place + length (packed cells) ≤ length named
  cells_fit = omega (arith, length_cells, length_named, apart.within)

  length_filled : length filled ≡ length bytes
  length_filled = length_over cells_place (packed cells) named cells_fit ∙ length_named

  head_fits : 12 ≤ length filled
  head_fits = omega (arith, length_filled)

  length_file : length file ≡ length bytes
  length_file = length_over 0 head filled head_fits ∙ length_filled

  -- a section lies behind the header
  section : (from long : ℕ) → 12 ≤ from → part from long file ≡ part from long filled
  section from long behind = part_over_other 0 head filled head_fits from long (λ i l. inr (omega arith))

  cells_part : part cells_place (bytes_needed (2 ^ m)) file ≡ packed cells
  cells_part =
      section cells_place (bytes_needed (2 ^ m)) apart.behind
      ∙ ap (λ long. part cells_place long filled) (sym length_cells)
      ∙ part_over_same cells_place (packed cells) named cells_fit

  beside_cells : (i : ℕ) → i < length name → (name_place + i < cells_place) ⊎ (cells_place + length (packed cells) ≤ name_place + i)
  beside_cells i l = elim (cases_lt (name_place + i) cells_place) [
    | inl k ↦ inl k
    | inr k ↦ inr (omega (arith, length_cells, apart.no_share))
  ]

  name_part : part name_place (length name) file ≡ name
  name_part =
      section name_place (length name) apart.behind'
      ∙ part_over_other cells_place (packed cells) named cells_fit name_place (length name) beside_cells
      ∙ part_over_same name_place name bytes apart.within'

  cells_at : place_of_cells file ≡ cells_place
  cells_at = omega arith

  name_at : place_of_name file ≡ name_place
  name_at = omega arith

  name_long : length_of_name file ≡ length name
  name_long = omega arith

  cells_read : cell_bytes file ≡ packed cells
  cells_read = ap (λ from. part from (bytes_needed (2 ^ m)) file) cells_at ∙ cells_part

  name_read : name_bytes file ≡ name
  name_read = ap₂ (λ from long. part from long file) name_at name_long ∙ name_part

  sections : placed (length file) (place_of_cells file) (bytes_needed (2 ^ m)) (place_of_name file) (length_of_name file) ≡ true
  sections =
      ap₂ (λ size from. placed size from (bytes_needed (2 ^ m)) (place_of_name file) (length_of_name file)) length_file cells_at
      ∙ ap₂ (placed (length bytes) cells_place (bytes_needed (2 ^ m))) name_at name_long
      ∙ lawful

  clean : unused (2 ^ m) (cell_bytes file) ≡ 0
  clean =
      ap (unused (2 ^ m)) cells_read
      ∙ ap (λ n. unused n (packed cells)) (sym table.long)
      ∙ unused_packed cells table.bits (omega (arith, table.long, pow_pos m))

  cells_are : unpacked (2 ^ m) (cell_bytes file) ≡ cells
  cells_are =
      ap (unpacked (2 ^ m)) cells_read
      ∙ ap (λ n. unpacked n (packed cells)) (sym table.long)
      ∙ unpacked_packed cells table.bits

  says : length bytes ≤ 4096 → m ≤ 8 → r ≤ m → T ≤ 32512 → Says file m r T cells name × (place_of_cells file ≡ cells_place) × (place_of_name file ≡ name_place)
  says short few low near =
      let accepted = lawful_accepted file (record {
        header_fits = omega (arith, length_file);
        short = omega (arith, length_file);
        few = few;
        low = low;
        near = omega arith;
        counted = omega arith;
        sections = sections;
        clean = clean;
      }) in
      (record { accepted = accepted; m_is = refl; r_is = refl; t_is = omega arith; cells_are = cells_are; name_is = name_read }, cells_at, name_at)

pub written_reads_back : WrittenReadsBack
written_reads_back bytes m r T cells cells_place name name_place w =
    says bytes m r T cells cells_place name name_place w.header_fits w.table w.sections w.short w.few w.low w.near

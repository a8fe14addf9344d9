-- A patch file is accepted just where its sizes are lawful, its sections lie apart behind the header and within it, and its unused bits are 0.
use Rattle.std.proofs.Common.{◌≡◌, ℕ, ◌+◌, ◌^◌, ◌≤◌, min, max, true, not, ◌&&◌, leb, List, length, None, ap, ◌∙◌}
use Rattle.std.proofs.lemmas.Bool.{ltb-false, leb-true, eqb-true, le-ltb, le-leb, eq-eqb, and_parts, and_from, not-true, not-false, cond-false}
use Rattle.polynomials.proofs.Choosing.{no_row}
use Rattle.formats.specs.Packing.{bytes_needed, unused}
use Rattle.formats.specs.Patch.{variables, order, radius, count, place_of_cells, length_of_name, place_of_name, cell_bytes, lies, share, placed, patch_row}

-- what placed says of two sections
pub record Apart (size place long place' long' : ℕ) : Type 0 where
  pub behind : 12 ≤ place
  pub within : place + long ≤ size
  pub behind' : 12 ≤ place'
  pub within' : place' + long' ≤ size
  pub no_share : min (place + long) (place' + long') ≤ max place place'

pub placed_apart : (size place long place' long' : ℕ) → placed size place long place' long' ≡ true → Apart size place long place' long'
placed_apart size place long place' long' e =
    let both = and_parts (lies size place long && lies size place' long') (not (share place long place' long')) e in
    let lie = and_parts (lies size place long) (lies size place' long') both.0 in
    let one = and_parts (leb 12 place) (leb (place + long) size) lie.0 in
    let two = and_parts (leb 12 place') (leb (place' + long') size) lie.1 in
    record {
      behind = leb-true 12 place one.0;
      within = leb-true (place + long) size one.1;
      behind' = leb-true 12 place' two.0;
      within' = leb-true (place' + long') size two.1;
      no_share = ltb-false (max place place') (min (place + long) (place' + long')) (not-true (share place long place' long') both.1);
    }

-- what holds of an accepted file
pub record Lawful (file : List ℕ) : Type 0 where
  pub header_fits : 12 ≤ length file
  pub short : length file ≤ 4096
  pub few : variables file ≤ 8
  pub low : order file ≤ variables file
  pub near : radius file ≤ 32512
  pub counted : count file ≡ 2 ^ variables file
  pub sections : placed (length file) (place_of_cells file) (bytes_needed (2 ^ variables file)) (place_of_name file) (length_of_name file) ≡ true
  pub clean : unused (2 ^ variables file) (cell_bytes file) ≡ 0

pub lawful_accepted : (file : List ℕ) → Lawful file → patch_row file ≡ None
lawful_accepted file v =
    let size = and_from (leb 12 (length file)) (leb (length file) 4096) (le-leb 12 (length file) v.header_fits) (le-leb (length file) 4096 v.short) in
    cond-false _ _ _ (ap not size)
    ∙ cond-false _ _ _ (le-ltb 8 (variables file) v.few)
    ∙ cond-false _ _ _ (le-ltb (variables file) (order file) v.low)
    ∙ cond-false _ _ _ (le-ltb 32512 (radius file) v.near)
    ∙ cond-false _ _ _ (ap not (eq-eqb (count file) (2 ^ variables file) v.counted))
    ∙ cond-false _ _ _ (ap not v.sections)
    ∙ cond-false _ _ _ (ap not (eq-eqb (unused (2 ^ variables file) (cell_bytes file)) 0 v.clean))

pub accepted_lawful : (file : List ℕ) → patch_row file ≡ None → Lawful file
accepted_lawful file e =
    let a = no_row _ _ _ e in
    let b = no_row _ _ _ a.1 in
    let c = no_row _ _ _ b.1 in
    let d = no_row _ _ _ c.1 in
    let f = no_row _ _ _ d.1 in
    let g = no_row _ _ _ f.1 in
    let h = no_row _ _ _ g.1 in
    let size = and_parts (leb 12 (length file)) (leb (length file) 4096) (not-false _ a.0) in
    record {
      header_fits = leb-true 12 (length file) size.0;
      short = leb-true (length file) 4096 size.1;
      few = ltb-false 8 (variables file) b.0;
      low = ltb-false (variables file) (order file) c.0;
      near = ltb-false 32512 (radius file) d.0;
      counted = eqb-true (count file) (2 ^ variables file) (not-false _ f.0);
      sections = not-false _ g.0;
      clean = eqb-true (unused (2 ^ variables file) (cell_bytes file)) 0 (not-false _ h.0);
    }

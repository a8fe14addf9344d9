use Rattle.std.proofs.Common.{◌≡◌, ℕ, ◌+◌, ◌/◌, ◌%◌, List, [], ◌∷◌, ◌++◌, get_or, ap, ◌∙◌, arith, rules}
use Rattle.std.proofs.lemmas.Nat.{and_mask}
use Rattle.std.proofs.lemmas.List.{take_more_set, map-append}
use Rattle.std.proofs.lemmas.List.FromFn.{map-range_with_len_more}
use Rattle.formats.specs.Packing.{bit_from_top, unpacked}
use Rattle.patch.specs.Patches.{as_cells}
use Rattle.patch.proofs.packing.write_cells.Goals as goal

-- one cell more
as_cells-more : (n : ℕ) (bytes : List ℕ) → as_cells (unpacked (n + 1) bytes) ≡ as_cells (unpacked n bytes) ++ record { byte = bit_from_top (get_or bytes (n / 8) 0) (n % 8) } ∷ []
as_cells-more n bytes = ap as_cells (map-range_with_len_more _ 0 n n (omega arith)) ∙ map-append _ (unpacked n bytes) _

pub loop-place-preserved : goal.loop-place-preserved
loop-place-preserved c = search (rules, take_more_set, as_cells-more, and_mask c.loop-place.place 3)

use Rattle.std.proofs.Common.{◌<◌, ℕ, List, length, rules, slice_index}
use Rattle.std.proofs.lemmas.List.{get_or_default}
use Rattle.std.proofs.lemmas.List.Edits.{map_over_more}
use Rattle.lines.specs.Pieces.{digit}
use Rattle.lines.proofs.pieces.put_bits.Goals as goal

pub loop-cell-preserved : goal.loop-cell-preserved
loop-cell-preserved c =
    let ys : List ℕ = c.loop-cell.cell-items in
    let i : ℕ = c.loop-cell.cell-index in
    let inside : i < length c.args.bits.now = search rules in
    let within : i < length ys = search rules in
    rw (c.digit.ensures) (map_over_more digit c.args.bits.now ys i (slice_index ys i) inside c.loop-cell.invariant (get_or_default ys i 0 _ within))

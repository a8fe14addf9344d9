use Rattle.std.proofs.Common.{◌≡◌, w8, SFits, rules, arith}
use Rattle.std.proofs.lemmas.Int.{to_z-of_z}
use Rattle.cells.specs.Readings.{weight_or_0}
use Rattle.cells.proofs.Filling.{filled_more}
use Rattle.cells.proofs.weighing.write_weights.Goals as goal

pub loop-place-preserved : goal.loop-place-preserved
loop-place-preserved g c =
    let fits : SFits w8 c.unwrap_or.result = search rules in
    let weight : c.unwrap_or.result ≡ weight_or_0 (g.C.Cell.reading c.index-cells-place.result) = cc in
    rw (to_z-of_z w8 c.unwrap_or.result fits, weight, c.loop-place.invariant)
    (filled_more (λ cell. weight_or_0 (g.C.Cell.reading cell)) c.args.cells.now c.args.weights.now c.loop-place.place c.index-cells-place.result c.loop-place-test.true (omega (arith, c.loop-place-test.true, c.requires.room)) c.index-cells-place.is)

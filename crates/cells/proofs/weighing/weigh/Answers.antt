use Rattle.std.proofs.Common.{map, refl, sym}
use Rattle.std.proofs.lemmas.List.{length-map, take_at, drop_at}
use Rattle.cells.specs.Readings.{weight_or_0}
use Rattle.cells.proofs.Weights.{all_weighed, all_small}
use Rattle.cells.proofs.weighing.weigh.Goals as goal

pub returns-clause-written : goal.returns-clause-written
returns-clause-written g c =
    let ws = map (λ cell. weight_or_0 (g.C.Cell.reading cell)) c.args.cells.now in
    let long = length-map c.args.cells.now (λ cell. weight_or_0 (g.C.Cell.reading cell)) in
    rw (c.write_weights.ensures, take_at ws _ _ long, drop_at ws _ _ long) (refl, all_weighed g.C.Cell.reading c.args.cells.now (sym c.in_ok-check_cells.ensures.refused), refl)

pub returns-clause-small : goal.returns-clause-small
returns-clause-small g c =
    rw (c.write_weights.ensures, take_at _ _ _ (length-map c.args.cells.now _)) (all_small g.C.Cell.reading g.met.C.Cell.bounded c.args.cells.now)

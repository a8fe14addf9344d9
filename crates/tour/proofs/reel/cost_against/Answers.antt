use Rattle.std.proofs.Common.{take, IfOk, rules}
use Rattle.polynomials.specs.Words.{Table}
use Rattle.tour.proofs.Marks.{table_paid}
use Rattle.tour.proofs.reel.cost_against.Goals as goal

pub returns : goal.returns
returns c =
    let table : IfOk c.cost.result (λ _. Table c.args.m c.args.mark.now) =
    table_paid c.args.m (take c.in_ok-n.n c.weigh.new.weights) c.args.mark.now c.cost.result c.cost.ensures.refused in
    search rules

use Rattle.std.proofs.Common.{rules, tests, arith}
use Rattle.std.proofs.lemmas.Iterator.{YieldsList-from_range, cases_from_all}
use Rattle.words.proofs.Lowness.{Passes, Fails, low_where_all}
use Rattle.words.proofs.table.Table.is_low.Goals as goal

pub returns : goal.returns
returns c =
    let m = c.args.self.now.code.variables in
    let r = c.args.self.now.code.order in
    let table = c.args.self.now.bits.now in
    let n = c.points.result in
    low_where_all m r table n c.all.result c.points.ensures.value
    (cases_from_all _ _ c.all.result (Passes m r table) (Fails m r table) c.all.ensures.ran (YieldsList-from_range 0 n n (cc) (omega arith))
    (λ x q k. search (rules, tests)) (λ x q k. search (rules, tests)))

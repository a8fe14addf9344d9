use Rattle.std.proofs.Common.{arith, lit≤}
use Rattle.std.proofs.lemmas.Grind.{common_steps}
use Rattle.tour.proofs.Exact.{exact}
use Rattle.tour.proofs.round_trip.Goals as goal

pub returns-clause-mark : goal.returns-clause-mark
returns-clause-mark c =
    let ok = c.in_ok-encode.ensures in
    (exact 6 2 _ _ _ _ ok.written.0 c.told-mark ok.written.1 ok.reads_back).whole

pub returns-clause-found : goal.returns-clause-found
returns-clause-found c =
    let ok = c.in_ok-encode.ensures in
    let back = c.in_ok-read_back.ensures in
    let mark = exact 6 2 _ _ _ _ ok.written.0 c.told-mark ok.written.1 ok.reads_back in
    grind (arith, common_steps, back.written.0, c.told-found, c.read_back.auto.message, back.undoes_encode c.args.grade.now mark.encodes (lit≤ tt) (lit≤ tt) (omega (arith, c.told-found)))

use Rattle.std.proofs.Common.{◌≡◌, ap, rules, tests, arith}
use Rattle.std.specs.List.{fold, zip}
use Rattle.std.proofs.lemmas.Iterator.{YieldsList-from_slice, YieldsList-from_zip}
use Rattle.std.proofs.lemmas.Iterator.Consumers.{YieldsList-at, fold_from_yields_List}
use Rattle.polynomials.specs.Monomials.{inside, monomials}
use Rattle.polynomials.specs.Words.{sum_at}
use Rattle.words.proofs.Folding.{count_in, folded_values}
use Rattle.words.proofs.polynomial.Polynomial.value_at.Goals as goal

pub returns : goal.returns
returns c =
    let message = c.args.self.now.message.now in
    let ss = c.args.monos.now in
    let step = count_in (λ x. inside x c.args.point) in
    let folded : c.fold.result ≡ fold step 0 (zip ss message)
    = fold_from_yields_List _ step 0 c.fold.result c.fold.ensures.ran
    (YieldsList-from_zip
    (YieldsList-at c.zip.ensures.first (YieldsList-from_slice ss c.iter.ensures.rest))
    (YieldsList-at c.zip.ensures.second (YieldsList-from_slice message c.iter-2.ensures.rest)))
    (λ a x b q k. search (rules, tests)) in
    let here : sum_at ss message c.args.point ≡ sum_at (monomials c.args.self.now.code.variables c.args.self.now.code.order) message c.args.point
    = ap (λ ss. sum_at ss message c.args.point) c.requires in
    omega (arith, folded, folded_values c.args.point ss message 0 (omega arith) c.args.self.now.bits, here)

use Rattle.std.proofs.Common.{◌≡◌, ◌%◌, ◌+◌, ◌*◌, ◌^◌, rules, tests, length, refl, ap, ◌∙◌, get_or, arith}
use Rattle.std.specs.List.{fold, enumerate_from}
use Rattle.std.proofs.lemmas.Iterator.{YieldsList-from_slice}
use Rattle.std.proofs.lemmas.Iterator.Consumers.{YieldsList-at, YieldsList-from_enumerate, fold_from_yields_List}
use Rattle.polynomials.specs.Sums.{total}
use Rattle.polynomials.specs.Monomials.{inside, value}
use Rattle.words.proofs.Folding.{count_in, folded_table}
use Rattle.words.proofs.table.Table.coefficient_of.Goals as goal

pub returns : goal.returns
returns c =
    let bits = c.args.self.now.bits.now in
    let step = count_in (λ x. inside x c.args.mono) in
    let folded : c.fold.result ≡ fold step 0 (enumerate_from 0 bits)
    = fold_from_yields_List _ step 0 c.fold.result c.fold.ensures.ran
    (YieldsList-from_enumerate
    (YieldsList-at c.enumerate.ensures.source (YieldsList-from_slice bits c.iter.ensures.rest)) c.enumerate.ensures.count)
    (λ a x b q k. search (rules, tests)) in
    let long : 0 + length bits ≡ 2 ^ c.args.self.now.code.variables = omega (arith, c.args.self.now.long) in
    folded
    ∙ folded_table c.args.mono bits bits 0 0 c.args.self.now.each (λ i. let e : 0 + i ≡ i = omega arith in ap (λ n. get_or bits n 0) e) refl
    ∙ ap (λ n. total n (λ p. value p c.args.mono * get_or bits p 0) % 2) long

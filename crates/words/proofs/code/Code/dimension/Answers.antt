use Rattle.std.proofs.Common.{◌≡◌, ℕ, ◌^◌, length, filter, ap, ◌∙◌, lit<, arith, rules, tests}
use Rattle.std.specs.List.{range_with_len}
use Rattle.std.proofs.lemmas.List.FromFn.{length-range_with_len}
use Rattle.std.proofs.lemmas.Iterator.{YieldsList, YieldsList-from_range, YieldsList-from_map}
use Rattle.std.proofs.lemmas.Iterator.Consumers.{sum_by_from_yields_List}
use Rattle.std.proofs.lemmas.Iterator.Adapters.{at_most_from_yields_List, fits_from_length}
use Rattle.polynomials.specs.Monomials.{monomials, admits, down}
use Rattle.polynomials.proofs.Counting.{monomials_counted}
use Rattle.words.proofs.Shortness.{kept_le, one_if, summed_kept}
use Rattle.words.proofs.code.Code.dimension.Goals as goal

pub sum-requires-clause-fits : goal.sum-requires-clause-fits
sum-requires-clause-fits c =
    let n = c.points.result in
    fits_from_length _ _ 256 (2 ^ 64)
    (at_most_from_yields_List (YieldsList-from_range 0 n n c.map.ensures.source (omega arith)) (omega (arith, length-range_with_len 0 n, c.points.ensures.bound)))
    c.map.ensures.closure (lit< tt) (λ x r q k. search (rules, tests))

-- how many are admitted
counted : (c : goal.After-sum) → c.sum.result ≡ length (monomials c.args.self.now.variables c.args.self.now.order)
counted c =
    let n = c.points.result in
    let kept = admits c.args.self.now.order in
    sum_by_from_yields_List (one_if kept) (range_with_len 0 n) c.map.result c.sum.result c.sum.ensures.ran
    (YieldsList-from_map _ (one_if kept) (YieldsList-from_range 0 n n c.map.ensures.source (omega arith)) c.map.ensures.closure (λ x r q k. search (rules, tests)))
    ∙ summed_kept kept n
    ∙ ap (λ n. length (filter kept (down n))) c.points.ensures.value

pub returns-clause-value : goal.returns-clause-value
returns-clause-value c = counted c ∙ monomials_counted c.args.self.now.variables c.args.self.now.order

pub returns-clause-counted : goal.returns-clause-counted
returns-clause-counted c = counted c

pub returns-clause-bound : goal.returns-clause-bound
returns-clause-bound c =
    let n = c.points.result in
    let kept = admits c.args.self.now.order in
    omega (arith, counted c, kept_le kept n, ap (λ n. length (filter kept (down n))) c.points.ensures.value, c.points.ensures.bound)

use Rattle.std.proofs.Common.{◌^◌, ℕ, ℤ, Bor, ◌∙◌, rules, lit<}
use borrow.Author.Tests.{tests}
use Rattle.std.specs.List.{zip}
use Rattle.std.proofs.iter.Yields.{fronts}
use Rattle.std.proofs.lemmas.Iterator.{YieldsList, zips, YieldsList-from_slice, YieldsList-from_zip, YieldsList-from_map}
use Rattle.std.proofs.lemmas.Iterator.Consumers.{sum_by_from_yields_List}
use Rattle.std.proofs.lemmas.Iterator.Adapters.{at_most_from_yields_List, fits_from_length}
use Rattle.cells.specs.Costs.{pays}
use Rattle.cells.proofs.Pairs.{few_points, cost_of_pairs}
use Rattle.cells.proofs.costs.cost.Goals as goal
use Rattle.cells.proofs.costs.cost.Goals.{After-map}

-- each weight beside its bit
pairs : (c : After-map) → YieldsList (zips fronts fronts) (λ (p : Bor ℤ × Bor ℕ). (p.0.now, p.1.now)) c.map.result.iter (zip c.args.weights.now c.args.word.now)
pairs c = YieldsList-from_zip (YieldsList-from_slice c.args.weights.now cc) (YieldsList-from_slice c.args.word.now cc)

pub sum-requires-clause-fits : goal.sum-requires-clause-fits
sum-requires-clause-fits c =
    fits_from_length _ _ 256 (2 ^ 32) (at_most_from_yields_List (pairs c) (few_points c.args.m c.args.weights.now c.args.word.now c.in_ok-check_word.ensures.sizes))
    c.map.ensures.closure (lit< tt) (λ x r q k. search (rules, tests))

pub returns-clause-value : goal.returns-clause-value
returns-clause-value c =
    sum_by_from_yields_List (λ (p : ℤ × ℕ). pays p.0 p.1) (zip c.args.weights.now c.args.word.now) c.map.result c.sum.result c.sum.ensures.ran
    (YieldsList-from_map _ (λ (p : ℤ × ℕ). pays p.0 p.1) (pairs (goal.at.returns-clause-value c).After-map) c.map.ensures.closure (λ x r q k. search rules))
    ∙ cost_of_pairs c.args.m c.args.weights.now c.args.word.now c.in_ok-check_word.ensures.sizes

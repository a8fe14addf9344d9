use Rattle.std.proofs.Common.{◌≡◌, None, inr, refl, rules}
use Rattle.polynomials.specs.Words.{Table}
use Rattle.polynomials.specs.Coefficients.{coefficients, Degree≤}
use Rattle.polynomials.proofs.Reading.{encodes_coefficients, encodes_low_degree}
use Rattle.words.specs.Refusals.{table_row}
use Rattle.words.proofs.reading.check_table.Goals as goal

pub returns-then-not-is_low-clause-refused : goal.returns-then-not-is_low-clause-refused
returns-then-not-is_low-clause-refused c =
    let passed : table_row c.args.m c.args.r c.args.table.now c.args.room ≡ None = search rules in
    let high : Degree≤ c.args.m c.args.r c.args.table.now → ⊥ = search rules in
    inr (passed, refl, λ message e. high (encodes_low_degree _ _ message _ e))

pub returns-clause-refused : goal.returns-clause-refused
returns-clause-refused c =
    let passed : table_row c.args.m c.args.r c.args.table.now c.args.room ≡ None = search rules in
    let table : Table c.args.m c.args.table.now = search rules in
    let low : Degree≤ c.args.m c.args.r c.args.table.now = search rules in
    (passed, (coefficients c.args.m c.args.r c.args.table.now, encodes_coefficients _ _ _ table low))

use Rattle.polynomials.proofs.Counting.{monomials_counted}
use Rattle.words.proofs.code.dimension.Goals as goal

pub returns-in_err-new-clause-law : goal.returns-in_err-new-clause-law
returns-in_err-new-clause-law c = monomials_counted

pub returns-clause-law : goal.returns-clause-law
returns-clause-law c = monomials_counted

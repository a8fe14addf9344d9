use Rattle.std.proofs.Common.{◌%◌}
use Rattle.polynomials.specs.Monomials.{monomials}
use Rattle.polynomials.specs.Words.{sum_at}
use Rattle.polynomials.proofs.Filling.{Filling}
use Rattle.words.proofs.polynomial.Polynomial.write_word.Given as goal

abbrev pub invariant-loop-point : goal.invariant-loop-point
invariant-loop-point l = Filling (λ point. sum_at (monomials l.self.code.variables l.self.code.order) l.self.message.now point % 2) l.initial.cell-items l.cell-items l.point

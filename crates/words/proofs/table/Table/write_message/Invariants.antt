use Rattle.polynomials.specs.Coefficients.{coefficient}
use Rattle.words.specs.Left.{monomials_left}
use Rattle.words.proofs.Gathering.{Gathering}
use Rattle.words.proofs.table.Table.write_message.Given as goal

abbrev pub invariant-loop-place : goal.invariant-loop-place
invariant-loop-place l =
    (goal.iterator-loop-place).can_next l.place-iterator
    × (goal.iterator-loop-place).is_finite l.place-iterator
    × Gathering l.self.code.variables l.self.code.order (coefficient l.self.code.variables l.self.bits.now) l.initial.message l.message (monomials_left l.place-iterator.iter) l.place-iterator.count

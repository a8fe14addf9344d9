use Rattle.std.proofs.Common.{◌<◌}
use Rattle.std.specs.List.{AllByRecursion}
use Rattle.words.specs.Left.{monomials_left}
use Rattle.words.proofs.Gathering.{Gathering}
use Rattle.words.proofs.code.Code.write_monomials.Given as goal

abbrev pub invariant-loop-place : goal.invariant-loop-place
invariant-loop-place l =
    (goal.iterator-loop-place).can_next l.place-iterator
    × (goal.iterator-loop-place).is_finite l.place-iterator
    × AllByRecursion (λ mono. mono < 256) (monomials_left l.place-iterator.iter)
    × Gathering l.self.variables l.self.order (λ mono. mono) l.initial.monos l.monos (monomials_left l.place-iterator.iter) l.place-iterator.count

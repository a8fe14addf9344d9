use Rattle.std.proofs.Common.{◌≡◌}
use Rattle.words.specs.Left.{monomials_left}
use Rattle.words.proofs.monomials.MonomialsIterator.next.Given as goal

-- those passed over so far are not admitted
abbrev pub invariant-loop-self : goal.invariant-loop-self
invariant-loop-self l = (l.self.order ≡ l.initial.self.order) × (monomials_left l.self ≡ monomials_left l.initial.self)

abbrev pub decreases-loop-self : goal.decreases-loop-self
decreases-loop-self l = l.self.below

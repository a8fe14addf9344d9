-- What is left of an iterator over monomials.
use Rattle.std.specs.Prelude.{ℕ, List, filter}
use Rattle.polynomials.specs.Monomials.{down, admits}
use Rattle.words.specs.declared.monomials.Monomials.{Monomials}

-- the admitted monomials that are still to come, from the highest down
abbrev pub monomials_left : Monomials → List ℕ
monomials_left monomials = filter (admits monomials.order) (down monomials.below)

use Rattle.std.proofs.Common.{arith}
use Rattle.polynomials.proofs.Filling.{filling_more}
use Rattle.words.proofs.polynomial.Polynomial.write_word.Goals as goal

pub loop-point-preserved : goal.loop-point-preserved
loop-point-preserved c = rw c.value_at.ensures (filling_more _ _ _ _ c.loop-point.invariant (omega (arith, c.loop-point.invariant.long)))

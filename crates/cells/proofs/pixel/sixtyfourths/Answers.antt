use Rattle.std.proofs.Common.{T, sym, subst, arith}
use Rattle.levels.specs.Levels.{whole64}
use Rattle.levels.proofs.Sixtyfourths.{Cast, sixtyfourths, whole64_le}
use Rattle.cells.proofs.pixel.sixtyfourths.Goals as goal
use Rattle.cells.proofs.pixel.sixtyfourths.Goals.{After-trunc}

cast : (c : After-trunc) → Cast c.trunc.result (whole64 c.args.level)
cast c = sixtyfourths c.args.level c.abs.result c.trunc.result c.requires c.abs.ensures.value (subst T (sym c.abs.type_inv) tt) c.trunc.ensures

pub float_to_int-result : goal.float_to_int-result
float_to_int-result c = (cast (goal.at.float_to_int-result c).After-trunc).lossless

pub returns : goal.returns
returns c = let n = (cast (goal.at.returns c).After-trunc).byte in record { value = n; bound = omega (arith, n, whole64_le c.args.level c.requires) }

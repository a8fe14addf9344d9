use Rattle.std.proofs.Common.{arith}
use Rattle.std.proofs.lemmas.Grind.{common_steps}
use Rattle.levels.proofs.Comparing.{level_above}
use Rattle.cells.proofs.pixel.PixelCell.read.Goals as goal

pub returns-then-darkest-lightest : goal.returns-then-darkest-lightest
returns-then-darkest-lightest c = grind (arith, common_steps, level_above c.args.self.now.darkest c.args.self.now.lightest)

pub returns : goal.returns
returns c = grind (arith, common_steps, level_above c.args.self.now.darkest c.args.self.now.lightest)

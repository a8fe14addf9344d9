use Rattle.std.proofs.Common.{rules}
use Rattle.words.proofs.Shortness.{kept_le, kept_below}
use Rattle.words.proofs.code.Code.monomials.Goals as goal

pub returns : goal.returns
returns c = search (rules, kept_le, kept_below)

use Rattle.std.proofs.lemmas.Nat.{and_mask, one_shl}
use Rattle.patch.proofs.packing.low_bits.Goals as goal

pub returns : goal.returns
returns c = rw (one_shl c.args.count 8 c.requires) (and_mask c.args.byte c.args.count)

use Rattle.formats.proofs.Packing.{unpacked_packed, packed_unpacked}
use Rattle.patch.proofs.packing.unpack.Goals as goal

pub returns-in_err-n-clause-undoes_packing : goal.returns-in_err-n-clause-undoes_packing
returns-in_err-n-clause-undoes_packing c = unpacked_packed

pub returns-in_err-n-clause-packs_again : goal.returns-in_err-n-clause-packs_again
returns-in_err-n-clause-packs_again c = packed_unpacked

pub returns-clause-undoes_packing : goal.returns-clause-undoes_packing
returns-clause-undoes_packing c = unpacked_packed

pub returns-clause-packs_again : goal.returns-clause-packs_again
returns-clause-packs_again c = packed_unpacked

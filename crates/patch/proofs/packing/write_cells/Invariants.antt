use Rattle.std.proofs.Common.{◌≡◌, take}
use Rattle.formats.specs.Packing.{unpacked}
use Rattle.patch.specs.Patches.{as_cells}
use Rattle.patch.proofs.packing.write_cells.Given as goal

abbrev pub invariant-loop-place : goal.invariant-loop-place
invariant-loop-place l = take l.place l.cells ≡ as_cells (unpacked l.place l.bytes)

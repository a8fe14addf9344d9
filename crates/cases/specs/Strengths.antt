-- The readings of a kind of cell that is supplied from outside the library.
use Rattle.std.specs.Prelude.{if◌then◌else◌, ℤ, Ok, Err, nat_lt, unsigned_abs}
use Rattle.words.specs.declared.refusals.Fault.TheVariants.{Byte}
use Rattle.cells.specs.Readings.{Reading}

-- a strength from -127 to 127 is its own weight, and any other is a fault
abbrev pub strength_reading : ℤ → Reading
strength_reading strength = if nat_lt 127 (unsigned_abs strength) then Err (Byte 128) else Ok strength

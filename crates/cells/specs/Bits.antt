-- The readings of bit cells.
use Rattle.std.specs.Prelude.{ℕ, if◌then◌else◌, pos, negsuc, Ok, Err, ◌==◌}
use Rattle.words.specs.declared.refusals.Fault.TheVariants.{Byte}
use Rattle.cells.specs.Readings.{Reading}

-- 0 weighs 1, 1 weighs -1, and any other byte is a fault
abbrev pub bit_reading : ℕ → Reading
bit_reading byte = if byte == 0 then Ok (pos 1) else if byte == 1 then Ok (negsuc 0) else Err (Byte byte)

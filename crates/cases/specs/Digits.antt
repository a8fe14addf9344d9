-- Bytes as text.
use Rattle.std.specs.Prelude.{ℕ, List}
use Rattle.std.specs.List.{flat_map}
use Rattle.std.specs.Fmt.{decimal}

-- each byte as a number in decimal digits, one after the other
abbrev pub digits_of : List ℕ → List ℕ
digits_of bytes = flat_map decimal bytes

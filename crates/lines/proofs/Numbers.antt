-- What the lines need of the numbers in them.
use Rattle.std.proofs.lemmas.List.{length-append, length-map}
use Rattle.formats.proofs.Decimals.{decimals, length_decimal_most}

-- the law of decimals, and that a line with numbers is not too long to count
pub ruleset numbers = (decimals, length_decimal_most, length-append, length-map)

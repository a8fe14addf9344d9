-- What a level is worth, over whole numbers. A finite float is the fraction num / den of two whole numbers, with a sign.
use Rattle.std.specs.Prelude.{ℕ, ◌*◌, ◌/◌, Bool, true, false, ◌==◌, nat_le, nat_lt, Float}
use Rattle.std.specs.Float.{nan, inf, fin}
use Rattle.std.specs.Float.Ieee.Positive.{num, den}

-- a number from 0 to 1; negative zero is 0
abbrev pub in_unit : Float → Bool
in_unit nan = false
in_unit (inf negative) = false
in_unit (fin false m e) = nat_le (num (fin false m e)) (den (fin false m e))
in_unit (fin true m e) = num (fin true m e) == 0

-- the whole part of 64 times a level
abbrev pub whole64 : Float → ℕ
whole64 x = 64 * num x / den x

-- of two levels from 0 to 1, the first is above the second
abbrev pub above : Float → Float → Bool
above x y = nat_lt (num y * den x) (num x * den y)

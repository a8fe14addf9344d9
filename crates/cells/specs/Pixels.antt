-- The readings of pixel cells.
use Rattle.std.specs.Prelude.{◌+◌, if◌then◌else◌, not, ◌||◌, pos, ◌-ℤ◌, Ok, Err, is_nan, Float}
use Rattle.levels.specs.Levels.{in_unit, whole64, above}
use Rattle.words.specs.declared.refusals.Fault.TheVariants.{NotANumber, Level, Levels}
use Rattle.cells.specs.Readings.{Reading}

-- by the darkest and the lightest level: a fault where one is not a number, where one is outside 0 to 1, or where the darkest is above the lightest;
-- else the whole parts of 64 times each level, together, less 64
abbrev pub pixel_reading : Float → Float → Reading
pixel_reading darkest lightest =
    if is_nan darkest || is_nan lightest then Err NotANumber
    else if not (in_unit darkest) then Err (Level darkest)
    else if not (in_unit lightest) then Err (Level lightest)
    else if above darkest lightest then Err (Levels darkest lightest)
    else Ok (pos (whole64 darkest + whole64 lightest) -ℤ pos 64)

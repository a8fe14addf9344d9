-- The weights of pixels lie from -127 to 127.
use Rattle.std.specs.Prelude.{◌≡◌, ℕ, ◌+◌, ◌≤◌, Bool, true, false, cond, not, ◌||◌, pos, ◌-ℤ◌, Ok, Err, is_nan, unsigned_abs, refl, Float}
use Rattle.std.proofs.Common.{arith}
use Rattle.std.proofs.lemmas.Int.{ints}
use Rattle.levels.specs.Levels.{in_unit, whole64, above}
use Rattle.levels.proofs.Sixtyfourths.{whole64_le}
use Rattle.words.specs.declared.refusals.Fault.TheVariants.{Level, Levels}
use Rattle.cells.specs.Readings.{Reading, InRange}
use Rattle.cells.specs.Pixels.{pixel_reading}

-- a reading that is one of two in range is in range
by_test : (b : Bool) (x y : Reading) → InRange x → InRange y → InRange (cond b x y)
by_test true x y p q = p
by_test false x y p q = q

-- two numbers up to 64, together, less 64
small : (a b : ℕ) → a ≤ 64 → b ≤ 64 → unsigned_abs (pos (a + b) -ℤ pos 64) ≤ 127
small a b p q = omega (arith, ints)

-- the weight of every pixel that has one
pub pixel_in_range : (darkest lightest : Float) → InRange (pixel_reading darkest lightest)
pixel_in_range d l = by_test (is_nan d || is_nan l) _ _ tt (units (in_unit d) (in_unit l) refl refl)
  where
    units : (u v : Bool) → in_unit d ≡ u → in_unit l ≡ v
        → InRange (cond (not u) (Err (Level d)) (cond (not v) (Err (Level l)) (cond (above d l) (Err (Levels d l)) (Ok (pos (whole64 d + whole64 l) -ℤ pos 64)))))
    units false v p q = tt
    units true false p q = tt
    units true true p q = by_test (above d l) _ _ tt (small (whole64 d) (whole64 l) (whole64_le d p) (whole64_le l q))

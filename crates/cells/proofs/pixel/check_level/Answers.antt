use Rattle.std.proofs.Common.{◌≡◌, Bool, true, false, cond, ◌&&◌, ◌||◌, Some, None, refl, sym}
use lib.Ieee.{Float, binary32, of_bits, lt, le, eq}
use Rattle.std.specs.declared.cmp.Ordering.TheVariants.{Less, Equal, Greater}
use Rattle.std.specs.Ordering.{partial_le, is_some_and, is_le, float_partial_cmp}
use Rattle.std.specs.declared.ops.RangeInclusive.{RangeInclusive}
use Rattle.std.specs.Range.{range_inclusive_start, range_inclusive_end, range_inclusive_exhausted, range_inclusive_contains}
use Rattle.levels.specs.Levels.{in_unit}
use Rattle.levels.proofs.Comparing.{level_not_below, level_below}
use Rattle.cells.proofs.pixel.check_level.Goals as goal

by_tests : (less same more : Bool) → is_some_and is_le (cond less (Some Less) (cond same (Some Equal) (cond more (Some Greater) None))) ≡ (less || same)
by_tests true same more = refl
by_tests false true more = refl
by_tests false false true = refl
by_tests false false false = refl

-- the order of floats as a range asks it
le_asked : (x y : Float) → partial_le float_partial_cmp x y ≡ le x y
unfolding le
le_asked x y = by_tests (lt x y) (eq x y) (lt y x)

between : (x : Float) (b : Bool) → le (of_bits binary32 0) x ≡ b → (b && le x (of_bits binary32 0x3f80_0000)) ≡ in_unit x
between x true e = level_not_below x e
between x false e = level_below x e

-- what the range from 0.0 to 1.0 tells of a level
told : (range : RangeInclusive Float) (x : Float) (r : Bool) → range_inclusive_start range ≡ of_bits binary32 0 → range_inclusive_end range ≡ of_bits binary32 0x3f80_0000
    → range_inclusive_exhausted range ≡ false → r ≡ range_inclusive_contains float_partial_cmp range x → in_unit x ≡ r
told range x r a b e h = sym (rw (h, a, b, e, le_asked (of_bits binary32 0) x, le_asked x (of_bits binary32 0x3f80_0000)) (between x _ refl))

pub returns-then-contains-clause-inside : goal.returns-then-contains-clause-inside
returns-then-contains-clause-inside c =
    let n = c.new.ensures in told c.new.result c.args.level true n.start n.end n.exhausted c.if-contains.ensures.value

pub returns-else-contains-clause-outside : goal.returns-else-contains-clause-outside
returns-else-contains-clause-outside c =
    let n = c.new.ensures in (told c.new.result c.args.level false n.start n.end n.exhausted c.if-contains.ensures.value, refl)

-- Levels and a file for the table. A finite level is a sign, a whole number and a power of two.
use Rattle.std.specs.Prelude.{ℕ, true, false, List, ◌∷◌, pos, negsuc, codes, Float}
use Rattle.std.specs.Float.{fin}

-- 0
abbrev pub nought : Float
nought = fin false 0 (pos 0)

-- negative zero
abbrev pub negative_nought : Float
negative_nought = fin true 0 (pos 0)

-- 1/4
abbrev pub quarter : Float
quarter = fin false 1 (negsuc 1)

-- 1/2
abbrev pub half : Float
half = fin false 1 (negsuc 0)

-- 1
abbrev pub one : Float
one = fin false 1 (pos 0)

-- the largest level below 0
abbrev pub below_0 : Float
below_0 = fin true 1 (negsuc 148)

-- the smallest level above 0
abbrev pub above_0 : Float
above_0 = fin false 1 (negsuc 148)

-- the largest level below 1
abbrev pub below_1 : Float
below_1 = fin false 16777215 (negsuc 23)

-- the smallest level above 1
abbrev pub above_1 : Float
above_1 = fin false 8388609 (negsuc 22)

-- the largest level below 17/64
abbrev pub below_17 : Float
below_17 = fin false 8912895 (negsuc 24)

-- the smallest level above 17/64
abbrev pub above_17 : Float
above_17 = fin false 8912897 (negsuc 24)

-- a patch file with m = 2, r = 1, T = 1, the cells 0001 and the name R1
abbrev pub file : List ℕ
file = 2 ∷ 1 ∷ 0 ∷ 1 ∷ 0 ∷ 4 ∷ 0 ∷ 12 ∷ 0 ∷ 2 ∷ 0 ∷ 13 ∷ 16 ∷ codes "R1"

-- How refusals print.
use Rattle.std.specs.Prelude.{ℕ, ◌-◌, ◌^◌, false, List, [], ◌∷◌, ◌++◌, codes, decimal, to_bits, Float}
use lib.Ieee.{binary32}
use Rattle.std.specs.Fmt.{digits, padded_integral, format_spec}
use Rattle.words.specs.Refusals.{Found, byte, levels, Told, row, row_at}

-- the bits of a level as eight hexadecimal digits
abbrev pub level_text : Float → List ℕ
level_text x = padded_integral (format_spec 32 0 4 8 (2 ^ 64 - 1)) false [] (digits 16 false (to_bits binary32 x))

-- what was found: a byte in decimal digits, or the levels by their bits
abbrev pub found_text : Found → List ℕ
found_text (byte b) = codes "byte " ++ decimal b
found_text (levels []) = codes "no level"
found_text (levels (x ∷ [])) = codes "level " ++ level_text x
found_text (levels (darkest ∷ (lightest ∷ more))) = codes "levels " ++ (level_text darkest ++ (codes " " ++ level_text lightest))

-- the number of the row, and then the place and what was found there
abbrev pub told_text : Told → List ℕ
told_text (row n) = decimal n
told_text (row_at n place values) = decimal n ++ (codes " at place " ++ (decimal place ++ (codes ", " ++ found_text values)))

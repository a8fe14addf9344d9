-- Numbers in decimal digits, without leading zeros.
use Rattle.std.specs.Prelude.{◌≡◌, ℕ, ◌+◌, ◌-◌, ◌*◌, ◌^◌, ◌<◌, ◌≤◌, List, [], ◌∷◌, length, decimal, slice_index}
use Rattle.std.specs.List.{AllByRecursion}

-- the number that digits say after a number, the most significant digit first
abbrev pub said : ℕ → List ℕ → ℕ
said n [] = n
said n (d ∷ ds) = said (10 * n + (d - 48)) ds

-- the bytes are digits, they say the number, and no 0 leads unless it is alone
pub record Decimal (n : ℕ) (digits : List ℕ) : Type 0 where
  pub all_digits : AllByRecursion (λ d. (48 ≤ d) × (d ≤ 57)) digits
  pub says : said 0 digits ≡ n
  pub some : 0 < length digits
  pub no_leading_zero : slice_index digits 0 ≡ 48 → length digits ≡ 1

-- `decimal` gives each number of 64 bits in decimal digits
abbrev pub Decimals : Type 0
Decimals = (n : ℕ) → n < 2 ^ 64 → Decimal n (decimal n)

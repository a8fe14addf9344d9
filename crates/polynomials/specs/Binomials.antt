-- Binomials, and the dimension of a code as their sum.
use Rattle.std.specs.Prelude.{ℕ, zero, suc, ◌+◌}

-- n over k, by Pascal's triangle
abbrev pub binomial : ℕ → ℕ → ℕ
binomial zero zero = 1
binomial zero (suc k) = 0
binomial (suc n) zero = 1
binomial (suc n) (suc k) = binomial n k + binomial n (suc k)

-- the sum of m over i for i from 0 to r
abbrev pub dimension : ℕ → ℕ → ℕ
dimension m zero = binomial m zero
dimension m (suc r) = dimension m r + binomial m (suc r)

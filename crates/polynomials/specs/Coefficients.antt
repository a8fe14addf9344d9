-- The polynomial of a table, and its degree.
use Rattle.std.specs.Prelude.{◌≡◌, ℕ, ◌*◌, ◌%◌, ◌^◌, ◌<◌, List, map, count_ones, slice_index}
use Rattle.polynomials.specs.Sums.{total}
use Rattle.polynomials.specs.Monomials.{monomials, value}

-- the sum of f over the parts of x, among the sets of m variables
abbrev pub parts : ℕ → (ℕ → ℕ) → ℕ → ℕ
parts m f x = total (2 ^ m) (λ y. value y x * f y)

-- the coefficient of a monomial in a table: the parity of the table over the points that lie inside the monomial
abbrev pub coefficient : ℕ → List ℕ → ℕ → ℕ
coefficient m table mono = parts m (λ point. slice_index table point) mono % 2

-- the coefficients of the admitted monomials, in prefix order
abbrev pub coefficients : ℕ → ℕ → List ℕ → List ℕ
coefficients m r table = map (coefficient m table) (monomials m r)

-- degree at most r: no monomial of more than r variables has the coefficient 1
abbrev pub Degree≤ : ℕ → ℕ → List ℕ → Type 0
Degree≤ m r table = (s : ℕ) → s < 2 ^ m → r < count_ones s → coefficient m table s ≡ 0

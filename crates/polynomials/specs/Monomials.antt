-- Points and monomials. A point gives each of the variables x1 to xm the value 0 or 1: it is the number below 2 ^ m whose m binary digits are
-- these values, x1 the highest. A monomial is a set of variables, numbered alike: a variable's digit is 1 where it is in the set.
use Rattle.std.specs.Prelude.{ℕ, zero, suc, ◌^◌, Bool, if◌then◌else◌, List, [], ◌∷◌, filter, ◌==◌, bit_and, count_ones, nat_le}

-- the numbers below n, from the highest down
abbrev pub down : ℕ → List ℕ
down zero = []
down (suc n) = n ∷ down n

-- order r admits the monomials of at most r variables
abbrev pub admits : ℕ → ℕ → Bool
admits r mono = nat_le (count_ones mono) r

-- prefix order: the monomials of m variables that order r admits, from the highest number down
abbrev pub monomials : ℕ → ℕ → List ℕ
monomials m r = filter (admits r) (down (2 ^ m))

-- each digit that is 1 in the first number is 1 in the second: the monomial is 1 at the point; the point lies inside the monomial
abbrev pub inside : ℕ → ℕ → Bool
inside a b = bit_and a b == a

-- the value of a monomial at a point
unfoldable pub value : ℕ → ℕ → ℕ
value mono point = if inside mono point then 1 else 0

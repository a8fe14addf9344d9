-- Messages: the coefficients of a polynomial in prefix order.
use Rattle.std.specs.Prelude.{◌≡◌, ℕ, ◌<◌, Bool, false, if◌then◌else◌, List, [], ◌∷◌, length, ◌==◌, nat_lt}
use Rattle.std.specs.List.{AllByRecursion}
use Rattle.polynomials.specs.Binomials.{dimension}

-- each byte is 0 or 1
abbrev pub Bits : List ℕ → Type 0
Bits bytes = AllByRecursion (λ b. b < 2) bytes

-- a message of order r in m variables: a bit for each admitted monomial
pub record Message (m r : ℕ) (message : List ℕ) : Type 0 where
  pub long : length message ≡ dimension m r
  pub bits : Bits message

-- of two messages the one with 0 at their first difference is earlier
abbrev pub earlier : List ℕ → List ℕ → Bool
earlier [] ys = false
earlier (x ∷ xs) [] = false
earlier (x ∷ xs) (y ∷ ys) = if x == y then earlier xs ys else nat_lt x y

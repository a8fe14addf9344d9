-- The facet rule: what the monomials that a prefix has settled say of the points that agree in their low digits.
use Rattle.std.specs.Prelude.{ℕ, zero, suc, ◌+◌, ◌-◌, ◌*◌, ◌/◌, ◌%◌, ◌^◌, if◌then◌else◌, leb, List, length, ℤ, pos, ◌+ℤ◌, neg_ℤ, filter, ◌==◌, nat_le, slice_index_or, unsigned_abs}
use Rattle.polynomials.specs.Sums.{total}
use Rattle.polynomials.specs.Monomials.{monomials}
use Rattle.polynomials.specs.Words.{sum_at}
use Rattle.rules.specs.Rules.{Rule, answerable}

-- f 0 + .. + f (n - 1), of signed numbers
abbrev pub sum_z : ℕ → (ℕ → ℤ) → ℤ
sum_z zero f = pos 0
sum_z (suc n) f = sum_z n f +ℤ f n

-- the weight of a point
abbrev pub weight_at : List ℤ → ℕ → ℤ
weight_at weights point = slice_index_or weights point (pos 0)

-- a weight, with its sign changed where the sum q is 1 modulo 2
unfoldable pub turned : ℕ → ℤ → ℤ
turned q weight = if q % 2 == 0 then weight else neg_ℤ weight

-- the admitted monomials numbered 2 ^ d or more; in prefix order they come first
abbrev pub upper : ℕ → ℕ → ℕ → List ℕ
upper m r d = filter (leb (2 ^ d)) (monomials m r)

-- the least of 0 .. d such that the admitted monomials with that many low digits left open are among the first j
abbrev pub least_open : ℕ → ℕ → ℕ → ℕ → ℕ
least_open m r j zero = 0
least_open m r j (suc d) = if nat_le (length (upper m r d)) j then least_open m r j d else suc d

-- how many low digits a prefix of j bytes leaves open
abbrev pub open_digits : ℕ → ℕ → ℕ → ℕ
open_digits m r j = least_open m r j m

-- the sum of the weights of the points whose low d digits are a, with the sign changed where the settled monomials sum to 1
abbrev pub folded : ℕ → ℕ → List ℤ → List ℕ → ℕ → ℕ → ℤ
folded m r weights prefix d a =
    sum_z (2 ^ (m - d)) (λ high. turned (sum_at (upper m r d) prefix (high * 2 ^ d + a)) (weight_at weights (high * 2 ^ d + a)))

-- the sum of the sizes of all weights
abbrev pub sizes : ℕ → List ℤ → ℕ
sizes m weights = total (2 ^ m) (λ point. unsigned_abs (weight_at weights point))

-- the sum of the sizes of the folded weights
abbrev pub folded_sizes : ℕ → ℕ → List ℤ → List ℕ → ℕ → ℕ
folded_sizes m r weights prefix d = total (2 ^ d) (λ a. unsigned_abs (folded m r weights prefix d a))

-- the facet rule: half of what folding takes away from the sizes
unfoldable pub facet : Rule
facet m r weights prefix =
    if answerable m r weights prefix then (sizes m weights - folded_sizes m r weights prefix (open_digits m r (length prefix))) / 2 else 0

-- What holds of the rules, for every number of variables, every order, all weights and every prefix.
use Rattle.std.specs.Prelude.{◌≡◌, ℕ, ◌+◌, ◌*◌, ◌^◌, ◌≤◌, true, List, [], length, drop, ℤ, filter, nat_le}
use Rattle.polynomials.specs.Monomials.{monomials}
use Rattle.rules.specs.Rules.{answerable}
use Rattle.rules.specs.Facets.{open_digits, sizes, folded_sizes, facet}

-- the half that facet answers is whole: twice the number and the folded sizes make up the sizes
abbrev pub FacetHalvesEvenly : Type 0
FacetHalvesEvenly =
    (m r : ℕ) (weights : List ℤ) (prefix : List ℕ) → answerable m r weights prefix ≡ true
    → 2 * facet m r weights prefix + folded_sizes m r weights prefix (open_digits m r (length prefix)) ≡ sizes m weights

-- the digits left open are the fewest such that every admitted monomial numbered 2 ^ d or more is among the first j
abbrev pub FewestDigitsOpen : Type 0
FewestDigitsOpen =
    (m r j : ℕ)
    → (open_digits m r j ≤ m)
    × (filter (nat_le (2 ^ open_digits m r j)) (drop j (monomials m r)) ≡ [])
    × ((d : ℕ) → d ≤ m → filter (nat_le (2 ^ d)) (drop j (monomials m r)) ≡ [] → open_digits m r j ≤ d)

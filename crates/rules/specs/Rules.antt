-- Rules of estimates: a number for a prefix of a message, which no word whose message begins with the prefix undercuts.
use Rattle.std.specs.Prelude.{◌≡◌, ℕ, ◌^◌, ◌≤◌, max, Bool, false, ◌&&◌, leb, List, ◌++◌, length, ℤ, ◌==◌, nat_le, unsigned_abs}
use Rattle.std.specs.List.{list_all}
use Rattle.polynomials.specs.Binomials.{dimension}
use Rattle.polynomials.specs.Messages.{Bits, Message}
use Rattle.polynomials.specs.Words.{word_of}
use Rattle.cells.specs.Costs.{cost}

-- a rule gives a number for m, r, the weights and a prefix
abbrev pub Rule : Type 0
Rule = ℕ → ℕ → List ℤ → List ℕ → ℕ

-- the cost of the word of a message
abbrev pub cost_of : ℕ → ℕ → List ℤ → List ℕ → ℕ
cost_of m r weights message = cost m weights (word_of m r message)

-- lawful: at most the cost of every word whose message begins with the prefix
abbrev pub Lawful : Rule → Type 0
Lawful rule =
    (m r : ℕ) (weights : List ℤ) (prefix rest : List ℕ) → Message m r (prefix ++ rest) → rule m r weights prefix ≤ cost_of m r weights (prefix ++ rest)

-- whether this can be asked: m up to 8, r up to m, a weight of at most 127 in size for each point, and at most as many bits as a message has
unfoldable pub answerable : ℕ → ℕ → List ℤ → List ℕ → Bool
answerable m r weights prefix =
    nat_le m 8
    && (nat_le r m
    && (length weights == 2 ^ m
    && (list_all (λ w. leb (unsigned_abs w) 127) weights
    && (nat_le (length prefix) (dimension m r)
    && list_all (λ b. leb b 1) prefix))))

-- silent: 0 at whatever cannot be asked
abbrev pub Silent : Rule → Type 0
Silent rule = (m r : ℕ) (weights : List ℤ) (prefix : List ℕ) → answerable m r weights prefix ≡ false → rule m r weights prefix ≡ 0

-- one rule is nowhere lower than another: its number is at least the other's for every prefix, with these sizes and weights
abbrev pub NowhereLower : ℕ → ℕ → List ℤ → Rule → Rule → Type 0
NowhereLower m r weights rule other =
    (prefix : List ℕ) → Bits prefix → length prefix ≤ dimension m r → other m r weights prefix ≤ rule m r weights prefix

-- the plain rule: always 0
abbrev pub plain : Rule
plain m r weights prefix = 0

-- the greater of the numbers of two rules
abbrev pub greater : Rule → Rule → Rule
greater one other m r weights prefix = max (one m r weights prefix) (other m r weights prefix)

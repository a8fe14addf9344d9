-- Words: the truth tables of polynomials.
use Rattle.std.specs.Prelude.{◌≡◌, ℕ, ◌+◌, ◌*◌, ◌%◌, ◌^◌, List, [], ◌∷◌, map, length}
use Rattle.std.specs.List.{range_with_len}
use Rattle.polynomials.specs.Monomials.{monomials, value}
use Rattle.polynomials.specs.Messages.{Bits, Message}

-- the sum at a point of these monomials, each times its coefficient
abbrev pub sum_at : List ℕ → List ℕ → ℕ → ℕ
sum_at [] cs point = 0
sum_at (s ∷ ss) [] point = 0
sum_at (s ∷ ss) (c ∷ cs) point = value s point * c + sum_at ss cs point

-- the word of a message: at each point the sum of its monomials modulo 2
abbrev pub word_of : ℕ → ℕ → List ℕ → List ℕ
word_of m r message = map (λ point. sum_at (monomials m r) message point % 2) (range_with_len 0 (2 ^ m))

-- a table in m variables: a bit for each point
pub record Table (m : ℕ) (table : List ℕ) : Type 0 where
  pub long : length table ≡ 2 ^ m
  pub bits : Bits table

-- the table is the word of this message of order r
pub record Encodes (m r : ℕ) (message table : List ℕ) : Type 0 where
  pub valid : Message m r message
  pub word : word_of m r message ≡ table

-- the table reads back as this message: it is its word, and no other message of order r has this word
pub record ReadsBack (m r : ℕ) (table message : List ℕ) : Type 0 where
  pub encodes : Encodes m r message table
  pub only : (other : List ℕ) → Encodes m r other table → other ≡ message

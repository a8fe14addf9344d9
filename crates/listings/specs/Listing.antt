-- The listing of the words of order r within T, and what a call of next tells of it.
use Rattle.std.specs.Prelude.{ℕ, List, ◌++◌, length, drop, ℤ, Some, None, filter, Option}
use Rattle.polynomials.specs.Binomials.{dimension}
use Rattle.rules.specs.Rules.{Rule, cost_of}
use Rattle.listings.specs.Order.{first}
use Rattle.listings.specs.Entering.{within, follows, entries, counted}

-- the messages of order r in m variables whose words are within T, in prefix order
abbrev pub listing : ℕ → ℕ → List ℤ → ℕ → List (List ℕ)
listing m r weights T = within (dimension m r) (cost_of m r weights) T

-- the first message of the listing after the last one handed out, where there is one
abbrev pub next_after : ℕ → ℕ → List ℤ → ℕ → Option (List ℕ) → Option (List ℕ)
next_after m r weights T last = first (filter (follows last) (listing m r weights T))

-- the count of a call: how many prefixes it enters, by the last message handed out before it and by the one that it hands out
abbrev pub count_of : ℕ → ℕ → List ℤ → ℕ → Rule → Option (List ℕ) → Option (List ℕ) → ℕ
count_of m r weights T rule last found = counted (entries (dimension m r) (rule m r weights) T (follows last) found)

-- what next tells: a word with its cost and a count, or the end with a count
pub data Telling : Type 0 where
  word : ℕ → ℕ → Telling
  end : ℕ → Telling

-- what is told of a message that is handed out, or of the end where there is none
abbrev pub telling : ℕ → ℕ → List ℤ → ℕ → Rule → Option (List ℕ) → Option (List ℕ) → Telling
telling m r weights T rule last None = end (count_of m r weights T rule last None)
telling m r weights T rule last (Some message) = word (cost_of m r weights message) (count_of m r weights T rule last (Some message))

-- a buffer with the message in front that is handed out, where there is one; its further bytes stay
abbrev pub filled : Option (List ℕ) → List ℕ → List ℕ
filled None before = before
filled (Some message) before = message ++ drop (length message) before

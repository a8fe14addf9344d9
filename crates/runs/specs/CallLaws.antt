-- What each call answers, and what its buffer then holds, by what is in force before it.
use Rattle.std.specs.Prelude.{◌≡◌, ℕ, ◌≤◌, List, length, ℤ, Some, None, Option}
use Rattle.polynomials.specs.Binomials.{dimension}
use Rattle.words.specs.Refusals.{Told}
use Rattle.cells.specs.Readings.{Reading}
use Rattle.rules.specs.Rules.{Rule}
use Rattle.listings.specs.Order.{first, remaining}
use Rattle.listings.specs.Listing.{listing, telling, filled}
use Rattle.runs.specs.Traces.{Shape, Answer, refused, done, listed}
use Rattle.runs.specs.Rows.{set_row, radius_row, load_row, rewind_row, next_row}

-- a call that tells nothing is done where no row holds, and refused with the first row that does
abbrev pub settled : Option Told → Answer
settled None = done
settled (Some t) = refused t

-- set, by its arguments
abbrev pub SetLaw : ℕ → ℕ → ℕ → Answer → Type 0
SetLaw m r T answer = answer ≡ settled (set_row m r T)

-- radius, by the sizes in force
abbrev pub RadiusLaw : Option Shape → ℕ → Answer → Type 0
RadiusLaw shape T answer = answer ≡ settled (radius_row shape T)

-- load, by the sizes in force and the readings of the cells
abbrev pub LoadLaw : Option Shape → List Reading → Answer → Type 0
LoadLaw shape readings answer = answer ≡ settled (load_row shape readings)

-- rewind, by the sizes and the weights in force
abbrev pub RewindLaw : Option Shape → Option (List ℤ) → Answer → Type 0
RewindLaw shape weights answer = answer ≡ settled (rewind_row shape weights)

-- the first message of the listing that has not been handed out, where there is one
abbrev pub next_new : ℕ → ℕ → List ℤ → ℕ → List (List ℕ) → Option (List ℕ)
next_new m r weights T handed = first (remaining handed (listing m r weights T))

-- an accepted next: the first message of the listing not yet handed out stands in front of the buffer, and its cost and the count are told; where none
-- is left, the end and the count, and the buffer is as before
pub record Hands (m r : ℕ) (weights : List ℤ) (T : ℕ) (handed : List (List ℕ)) (rule : Rule) (before : List ℕ) (answer : Answer) (after : List ℕ) : Type 0 where
  pub tells : answer ≡ listed (telling m r weights T rule (first handed) (next_new m r weights T handed))
  pub writes : after ≡ filled (next_new m r weights T handed) before

-- next, by the sizes, the radius, the weights and the messages handed out: refused with the first row that holds, which leaves the buffer as it was, and
-- where none holds, accepted
pub record NextLaw (shape : Option Shape) (T : ℕ) (weights : Option (List ℤ)) (handed : List (List ℕ)) (rule : Rule) (before : List ℕ) (answer : Answer) (after : List ℕ) : Type 0 where
  pub refuses : (row : Told) → next_row shape weights (length before) ≡ Some row → (answer ≡ refused row) × (after ≡ before)
  pub accepts : (s : Shape) (ws : List ℤ) → shape ≡ Some s → weights ≡ Some ws → dimension s.m s.r ≤ length before
      → Hands s.m s.r ws T handed rule before answer after

-- At next a row holds, or the reader has sizes, cells and room enough: never both, never neither.
use Rattle.std.proofs.Common.{◌≡◌, ℕ, ◌≤◌, ◌⊎◌, List, ℤ, Some, None, Option, refl, inl, inr}
use Rattle.std.proofs.lemmas.Bool.{cases_lt, lt-ltb, le-ltb, cond-true, cond-false}
use Rattle.polynomials.specs.Binomials.{dimension}
use Rattle.words.specs.Refusals.{Told, row}
use Rattle.runs.specs.Traces.{Shape}
use Rattle.runs.specs.Rows.{next_row}

-- sizes, weights, and room for a message
pub record Ready (shape : Option Shape) (weights : Option (List ℤ)) (room : ℕ) : Type 0 where
  pub sizes : Shape
  pub cells : List ℤ
  pub set : shape ≡ Some sizes
  pub loaded : weights ≡ Some cells
  pub fits : dimension sizes.m sizes.r ≤ room

pub row_or_ready : (shape : Option Shape) (weights : Option (List ℤ)) (room : ℕ)
    → ((t : Told) × (next_row shape weights room ≡ Some t)) ⊎ Ready shape weights room
row_or_ready None weights room = inl (row 4, refl)
row_or_ready (Some s) None room = inl (row 5, refl)
row_or_ready (Some s) (Some ws) room =
    elim (cases_lt room (dimension s.m s.r)) [
      | inl short ↦ inl (row 7, cond-true _ _ _ (lt-ltb room (dimension s.m s.r) short))
      | inr long ↦ inr (record { sizes = s; cells = ws; set = refl; loaded = refl; fits = long })
    ]

pub ready_no_row : (s : Shape) (ws : List ℤ) (room : ℕ) → dimension s.m s.r ≤ room → next_row (Some s) (Some ws) room ≡ None
ready_no_row s ws room long = cond-false _ _ _ (le-ltb room (dimension s.m s.r) long)

-- What a reader holds, and how that stands to the run that led to it.
use Rattle.std.specs.Prelude.{◌≡◌, ℕ, List, [], ◌++◌, reverse, ℤ, Some, None, Option}
use Rattle.rules.specs.Rules.{Rule}
use Rattle.listings.specs.Order.{first}
use Rattle.listings.specs.Listing.{Telling, listing, next_after, telling, filled}
use Rattle.runs.specs.Traces.{Trace, Shape, shape_of, radius_of, weights_of, handed_of}

-- what a reader holds: the sizes where it is set, the radius, the weights where it has cells, the last message handed out since the last start
pub record State : Type 0 where
  pub shape : Option Shape
  pub radius : ℕ
  pub weights : Option (List ℤ)
  pub last : Option (List ℕ)

-- a new reader: not set
abbrev pub new : State
new = record { shape = None; radius = 0; weights = None; last = None }

-- set: without cells, and nothing handed out
abbrev pub set_to : ℕ → ℕ → ℕ → State
set_to m r T = record { shape = Some (record { m = m; r = r }); radius = T; weights = None; last = None }

-- with another radius, at the start of the listing
abbrev pub with_radius : ℕ → State → State
with_radius T s = record { shape = s.shape; radius = T; weights = s.weights; last = None }

-- with these weights, at the start of the listing
abbrev pub with_weights : List ℤ → State → State
with_weights weights s = record { shape = s.shape; radius = s.radius; weights = Some weights; last = None }

-- at the start of the listing
abbrev pub rewound : State → State
rewound s = record { shape = s.shape; radius = s.radius; weights = s.weights; last = None }

-- after the message that next hands out; where there is none, the place stays
abbrev pub moved : Option (List ℕ) → State → State
moved None s = s
moved (Some message) s = record { shape = s.shape; radius = s.radius; weights = s.weights; last = Some message }

-- an accepted next of a reader that holds this: the first message of the listing after the last one is told of, stands in front of the buffer, and is the
-- last one from then on; where there is none, the end is told of, and the buffer and the place stay
pub record Finds (s : State) (rule : Rule) (before : List ℕ) (told : Telling) (after : List ℕ) (later : State) : Type 0 where
  pub shape : Shape
  pub cells : List ℤ
  pub set : s.shape ≡ Some shape
  pub loaded : s.weights ≡ Some cells
  pub tells : told ≡ telling shape.m shape.r cells s.radius rule s.last (next_after shape.m shape.r cells s.radius s.last)
  pub writes : after ≡ filled (next_after shape.m shape.r cells s.radius s.last) before
  pub moves : later ≡ moved (next_after shape.m shape.r cells s.radius s.last) s

-- the messages handed out are those that the listing begins with, the newest first; where there is no listing, none was handed out
abbrev pub Begun : Option Shape → ℕ → Option (List ℤ) → List (List ℕ) → Type 0
Begun None T weights handed = handed ≡ []
Begun (Some shape) T None handed = handed ≡ []
Begun (Some shape) T (Some weights) handed = (rest : List (List ℕ)) × (listing shape.m shape.r weights T ≡ reverse handed ++ rest)

-- the reader stands where this run has led it
pub record LedTo (h : Trace) (s : State) : Type 0 where
  pub shape : s.shape ≡ shape_of h
  pub radius : s.radius ≡ radius_of h
  pub weights : s.weights ≡ weights_of h
  pub last : s.last ≡ first (handed_of h)
  pub begun : Begun (shape_of h) (radius_of h) (weights_of h) (handed_of h)

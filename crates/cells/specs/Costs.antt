-- The cost of a word under weights.
use Rattle.std.specs.Prelude.{◌≡◌, ℕ, suc, ◌^◌, ◌≤◌, if◌then◌else◌, not, List, map, length, ℤ, pos, negsuc, Some, Option, ◌==◌, nat_lt, slice_index, slice_index_or, unsigned_abs}
use Rattle.std.specs.List.{AllByRecursion}
use Rattle.polynomials.specs.Sums.{total}
use Rattle.polynomials.specs.Words.{Table}
use Rattle.words.specs.Refusals.{Told, row, byte_row}
use Rattle.cells.specs.declared.bit.Bit.{Bit}
use Rattle.cells.specs.Readings.{Weighed}
use Rattle.cells.specs.Bits.{bit_reading}

-- what a word with this bit at a cell pays there: the size of the weight that it contradicts, a positive one by 1 and a negative one by 0
abbrev pub pays : ℤ → ℕ → ℕ
pays (pos w) bit = if bit == 1 then w else 0
pays (negsuc w) bit = if bit == 0 then suc w else 0

-- the cost of a word of m variables: what it pays at all its points
abbrev pub cost : ℕ → List ℤ → List ℕ → ℕ
cost m weights word = total (2 ^ m) (λ point. pays (slice_index_or weights point (pos 0)) (slice_index word point))

-- the word is within the radius
abbrev pub Within : ℕ → ℕ → List ℤ → List ℕ → Type 0
Within T m weights word = cost m weights word ≤ T

-- the Hamming distance: at how many points two tables of m variables differ
abbrev pub distance : ℕ → List ℕ → List ℕ → ℕ
distance m a b = total (2 ^ m) (λ point. if slice_index a point == slice_index b point then 0 else 1)

-- the first row that holds at cost
abbrev pub cost_row : ℕ → List ℤ → List ℕ → Option Told
cost_row m weights word =
    if nat_lt 8 m then Some (row 1)
    else if not (length weights == 2 ^ m) then Some (row 6)
    else if not (length word == 2 ^ m) then Some (row 6)
    else byte_row 0 word

-- with bit cells the cost of a word is its distance from the cells
abbrev pub CostIsDistance : Type 0
CostIsDistance =
    (m : ℕ) (cells : List Bit) (weights : List ℤ) (word : List ℕ) → length cells ≡ 2 ^ m → Weighed (map (λ cell. bit_reading cell.byte) cells) weights
    → Table m word → cost m weights word ≡ distance m (map (λ cell. cell.byte) cells) word

-- with weights from -127 to 127 every word of at most 8 variables is within the radius 32,512
abbrev pub WidestRadius : Type 0
WidestRadius = (m : ℕ) (weights : List ℤ) (word : List ℕ) → m ≤ 8 → AllByRecursion (λ w. unsigned_abs w ≤ 127) weights → Within 32512 m weights word

-- Refusals: what each tells, and the first row that holds at each call.
use Rattle.std.specs.Prelude.{◌≡◌, ℕ, ◌+◌, ◌^◌, if◌then◌else◌, not, ◌⊎◌, List, [], ◌∷◌, length, Some, None, Ok, Err, Option, Result, ◌==◌, nat_lt, Float}
use Rattle.polynomials.specs.Binomials.{dimension}
use Rattle.polynomials.specs.Words.{Encodes}
use Rattle.words.specs.declared.refusals.Fault.{Fault}
use Rattle.words.specs.declared.refusals.Fault.TheVariants.{Byte, NotANumber, Level, Levels}
use Rattle.words.specs.declared.refusals.Refusal.{Refusal}
use Rattle.words.specs.declared.refusals.Refusal.TheVariants.{Variables, Order, Radius, Unset, NoCells, Length, Room, At, NoWord}

-- what was found at a place: a byte, or levels, none of them where one is not a number
pub data Found : Type 0 where
  byte : ℕ → Found
  levels : List Float → Found

-- the number of a fault's row
abbrev pub fault_row : Fault → ℕ
fault_row (Byte b) = 8
fault_row NotANumber = 9
fault_row (Level x) = 9
fault_row (Levels darkest lightest) = 9

-- the values that a fault carries
abbrev pub found : Fault → Found
found (Byte b) = byte b
found NotANumber = levels []
found (Level x) = levels (x ∷ [])
found (Levels darkest lightest) = levels (darkest ∷ lightest ∷ [])

-- what a refusal tells: the number of its row, alone or with a place and what was found there
pub data Told : Type 0 where
  row : ℕ → Told
  row_at : ℕ → ℕ → Found → Told

-- the number of the row
abbrev pub number : Told → ℕ
number (row n) = n
number (row_at n place values) = n

-- what a fault at a place tells
abbrev pub told_at : ℕ → Fault → Told
told_at place fault = row_at (fault_row fault) place (found fault)

-- what each refusal tells
abbrev pub told : Refusal → Told
told Variables = row 1
told Order = row 2
told Radius = row 3
told Unset = row 4
told NoCells = row 5
told Length = row 6
told Room = row 7
told (At place fault) = told_at place fault
told NoWord = row 10

-- the row that refuses a call, by its answer; none where it was accepted
abbrev pub refusal_of : {X : Type 0} → Result X Refusal → Option Told
refusal_of (Ok x) = None
refusal_of (Err e) = Some (told e)

-- row 1, the number of variables, and then the rows after it
abbrev pub variables_row : ℕ → Option Told → Option Told
variables_row m later = if nat_lt 8 m then Some (row 1) else later

-- rows 1 and 2, the number of variables and the order, and then the rows after them
abbrev pub size_row : ℕ → ℕ → Option Told → Option Told
size_row m r later = variables_row m (if nat_lt m r then Some (row 2) else later)

-- row 7, a buffer with less room than is needed, and then the rows after it
abbrev pub room_row : ℕ → ℕ → Option Told → Option Told
room_row room needed later = if nat_lt room needed then Some (row 7) else later

-- row 8: the first byte above 1, where the first of the bytes stands at this place
abbrev pub byte_row : ℕ → List ℕ → Option Told
byte_row place [] = None
byte_row place (b ∷ bs) = if nat_lt 1 b then Some (row_at 8 place (byte b)) else byte_row (place + 1) bs

-- rows 6, 7 and 8: bytes that should be so many and 0 or 1 each, and a buffer's room with what it needs
abbrev pub bytes_row : List ℕ → ℕ → ℕ → ℕ → Option Told
bytes_row bytes asked room needed =
    if not (length bytes == asked) then Some (row 6) else room_row room needed (byte_row 0 bytes)

-- the first row that holds at dimension
abbrev pub dimension_row : ℕ → ℕ → Option Told
dimension_row m r = size_row m r None

-- the first row that holds at encode, with room for so many bytes
abbrev pub encode_row : ℕ → ℕ → List ℕ → ℕ → Option Told
encode_row m r message room = size_row m r (bytes_row message (dimension m r) room (2 ^ m))

-- the first row before 10 that holds at read_back, with room for so many bytes
abbrev pub table_row : ℕ → ℕ → List ℕ → ℕ → Option Told
table_row m r table room = size_row m r (bytes_row table (2 ^ m) room (dimension m r))

-- the first row that holds at read_back, row 10 among them: no message of order r has the table as its word
abbrev pub ReadBackRow : ℕ → ℕ → List ℕ → ℕ → Option Told → Type 0
ReadBackRow m r table room None = (table_row m r table room ≡ None) × ((message : List ℕ) × Encodes m r message table)
ReadBackRow m r table room (Some t) =
    (table_row m r table room ≡ Some t)
    ⊎ ((table_row m r table room ≡ None) × (t ≡ row 10) × ((message : List ℕ) → Encodes m r message table → ⊥))

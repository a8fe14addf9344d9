-- The lines that are printed: the pieces of each, and the line, which is its pieces one after the other.
use Rattle.std.specs.Prelude.{ℕ, ◌+◌, List, [], ◌∷◌, map, codes, decimal}
use Rattle.std.specs.List.{concat}

-- the line feed that ends each line
abbrev pub feed : List ℕ
feed = 10 ∷ []

-- `roll `, and the name as it is
abbrev pub roll_pieces : List ℕ → List (List ℕ)
roll_pieces name = codes "roll " ∷ name ∷ feed ∷ []

-- the message as digits, the cost, and the count
abbrev pub word_pieces : List ℕ → ℕ → ℕ → List (List ℕ)
word_pieces message cost count = map (λ b. 48 + b) message ∷ codes " " ∷ decimal cost ∷ codes " " ∷ decimal count ∷ feed ∷ []

-- `end `, the number of words listed, and a count
abbrev pub end_pieces : ℕ → ℕ → List (List ℕ)
end_pieces words count = codes "end " ∷ decimal words ∷ codes " " ∷ decimal count ∷ feed ∷ []

-- where a listing was stopped
abbrev pub stop_pieces : List (List ℕ)
stop_pieces = codes "stop 1000" ∷ feed ∷ []

-- `refused `, and the number of the row
abbrev pub refused_pieces : ℕ → List (List ℕ)
refused_pieces row = codes "refused " ∷ decimal row ∷ feed ∷ []

-- the line with the name of a roll
abbrev pub roll_line : List ℕ → List ℕ
roll_line name = concat (roll_pieces name)

-- the line of a word that was listed
abbrev pub word_line : List ℕ → ℕ → ℕ → List ℕ
word_line message cost count = concat (word_pieces message cost count)

-- the line that ends a listing
abbrev pub end_line : ℕ → ℕ → List ℕ
end_line words count = concat (end_pieces words count)

-- the line of a listing that was stopped
abbrev pub stop_line : List ℕ
stop_line = concat stop_pieces

-- the line of what was refused
abbrev pub refused_line : ℕ → List ℕ
refused_line row = concat (refused_pieces row)

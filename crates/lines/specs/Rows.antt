-- What a call that writes a line answers: the first row that refuses it, and the buffer after it.
use Rattle.std.specs.Prelude.{◌≡◌, ℕ, List, ◌++◌, length, drop, Option, Result, MatchResult}
use Rattle.polynomials.specs.Binomials.{dimension}
use Rattle.formats.specs.Lines.{word_line}
use Rattle.words.specs.declared.refusals.Refusal.{Refusal}
use Rattle.words.specs.Refusals.{Told, size_row, bytes_row}

-- the first row that holds at word_line, with room for so many bytes
abbrev pub word_line_row : ℕ → ℕ → List ℕ → ℕ → ℕ → ℕ → Option Told
word_line_row m r message cost count room = size_row m r (bytes_row message (dimension m r) room (length (word_line message cost count)))

-- accepted, the call answers the line's length, and the buffer holds the line and then its further bytes; refused, it is as before
abbrev pub Wrote : List ℕ → List ℕ → List ℕ → Result ℕ Refusal → Type 0
Wrote line before after a = MatchResult a (λ n. (n ≡ length line) × (after ≡ line ++ drop n before)) (λ _. after ≡ before)

-- A worked case: a question to the library with the answer that the definitions give it.
use Rattle.std.specs.Prelude.{◌≡◌, ℕ, true, List, ◌++◌, ℤ, Some, None, codes, Float}
use Prim.Native.String.{String}
use Rattle.polynomials.specs.Monomials.{monomials}
use Rattle.polynomials.specs.Messages.{earlier}
use Rattle.polynomials.specs.Words.{word_of, ReadsBack}
use Rattle.words.specs.Refusals.{Told, encode_row, ReadBackRow}
use Rattle.cells.specs.Readings.{Reading}
use Rattle.cells.specs.Bits.{bit_reading}
use Rattle.cells.specs.Pixels.{pixel_reading}
use Rattle.cells.specs.Costs.{cost}
use Rattle.formats.specs.Lines.{feed}
use Rattle.formats.specs.Patch.{patch_row, Says}

-- an answer: the row that refuses the call, or the bytes that it writes
pub data Answer : Type 0 where
  refused : Told → Answer
  wrote : List ℕ → Answer

-- a question with its answer: the admitted monomials of m and r; which of two messages is the earlier; a call with m, r, bytes and the room in its
-- buffer; the reading of a bit or of a pixel; the cost of a word of m variables; what a patch file says; the row that refuses one; the text of a
-- line before its line feed
pub data Case : Type 0 where
  prefix_order : ℕ → ℕ → List ℕ → Case
  comes_first : List ℕ → List ℕ → Case
  encode : ℕ → ℕ → List ℕ → ℕ → Answer → Case
  read_back : ℕ → ℕ → List ℕ → ℕ → Answer → Case
  bit_reads : ℕ → Reading → Case
  pixel_reads : Float → Float → Reading → Case
  word_costs : ℕ → List ℤ → List ℕ → ℕ → Case
  file_says : List ℕ → ℕ → ℕ → ℕ → List ℕ → List ℕ → Case
  file_refused : List ℕ → ℕ → Case
  line_reads : List ℕ → String → Case

-- encode gives this answer
abbrev pub EncodeGives : ℕ → ℕ → List ℕ → ℕ → Answer → Type 0
EncodeGives m r message room (refused t) = encode_row m r message room ≡ Some t
EncodeGives m r message room (wrote word) = (encode_row m r message room ≡ None) × (word_of m r message ≡ word)

-- read_back gives this answer
abbrev pub ReadBackGives : ℕ → ℕ → List ℕ → ℕ → Answer → Type 0
ReadBackGives m r table room (refused t) = ReadBackRow m r table room (Some t)
ReadBackGives m r table room (wrote message) = ReadBackRow m r table room None × ReadsBack m r table message

-- what the case says
abbrev pub Holds : Case → Type 0
Holds (prefix_order m r monos) = monomials m r ≡ monos
Holds (comes_first a b) = earlier a b ≡ true
Holds (encode m r message room answer) = EncodeGives m r message room answer
Holds (read_back m r table room answer) = ReadBackGives m r table room answer
Holds (bit_reads byte reading) = bit_reading byte ≡ reading
Holds (pixel_reads darkest lightest reading) = pixel_reading darkest lightest ≡ reading
Holds (word_costs m weights word paid) = cost m weights word ≡ paid
Holds (file_says file m r T cells name) = Says file m r T cells name
Holds (file_refused file row) = patch_row file ≡ Some row
Holds (line_reads line text) = line ≡ codes text ++ feed

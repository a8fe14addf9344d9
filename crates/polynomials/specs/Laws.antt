-- What holds of messages and words, for every number of variables and every order.
use Rattle.std.specs.Prelude.{◌≡◌, ℕ, ◌%◌, ◌^◌, ◌<◌, ◌↔◌, List, length}
use Rattle.polynomials.specs.Monomials.{monomials}
use Rattle.polynomials.specs.Binomials.{dimension}
use Rattle.polynomials.specs.Words.{Table, Encodes, ReadsBack}
use Rattle.polynomials.specs.Coefficients.{parts, Degree≤}

-- order r admits as many monomials as the sum of the binomials says
abbrev pub MonomialsCounted : Type 0
MonomialsCounted = (m r : ℕ) → length (monomials m r) ≡ dimension m r

-- inversion modulo 2: to sum over the parts of each set, and then again, gives each value back
abbrev pub SumsOfPartsInvert : Type 0
SumsOfPartsInvert = (m : ℕ) (f : ℕ → ℕ) (x : ℕ) → x < 2 ^ m → parts m (parts m f) x % 2 ≡ f x % 2

-- the words of order r are the tables of degree at most r
abbrev pub WordsAreLowDegree : Type 0
WordsAreLowDegree = (m r : ℕ) (table : List ℕ) → Table m table → ((message : List ℕ) × Encodes m r message table) ↔ Degree≤ m r table

-- different messages have different words: where a message has a word, no other has it
abbrev pub WordsDiffer : Type 0
WordsDiffer = (m r : ℕ) (message table : List ℕ) → Encodes m r message table → ReadsBack m r table message

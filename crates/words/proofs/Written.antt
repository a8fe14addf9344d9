-- What stands in front of a buffer that a word or a message was written into.
use Rattle.std.proofs.Common.{◌≡◌, ℕ, ◌^◌, List, ◌++◌, take, drop, sym, ap, ◌∙◌, subst}
use Rattle.std.proofs.lemmas.List.{take_at}
use Rattle.polynomials.specs.Binomials.{dimension}
use Rattle.polynomials.specs.Words.{word_of, Table, ReadsBack}
use Rattle.polynomials.specs.Coefficients.{coefficients, Degree≤}
use Rattle.polynomials.proofs.Reading.{length_word, coefficients_message, encodes_coefficients, words_differ}

module _ (m r : ℕ) (before after : List ℕ) (n : ℕ) where
  -- the word
  pub word_in_front : (message : List ℕ) → n ≡ 2 ^ m → after ≡ word_of m r message ++ drop n before → take n after ≡ word_of m r message
  word_in_front message e w = ap (take n) w ∙ take_at (word_of m r message) _ _ (length_word m r message ∙ sym e)

  -- the only message of the table
  pub message_in_front : (table : List ℕ) → n ≡ dimension m r → after ≡ coefficients m r table ++ drop (dimension m r) before
      → Table m table → Degree≤ m r table → ReadsBack m r table (take n after)
  message_in_front table e w t low =
      subst (ReadsBack m r table) (sym (ap (take n) w ∙ take_at (coefficients m r table) _ _ ((coefficients_message m r table).long ∙ sym e)))
      (words_differ m r _ table (encodes_coefficients m r table t low))

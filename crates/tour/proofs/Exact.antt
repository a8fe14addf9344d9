-- A mark written into a buffer of just its length: the whole buffer is the word.
use Rattle.std.proofs.Common.{◌≡◌, ℕ, ◌^◌, List, ◌++◌, length, take, drop, ap, subst, arith}
use Rattle.std.proofs.lemmas.List.{take_all}
use Rattle.std.proofs.lemmas.Grind.{common_steps}
use Rattle.polynomials.specs.Words.{word_of, Encodes, ReadsBack}
use Rattle.polynomials.proofs.Reading.{length_word}

pub record Exact (m r : ℕ) (message word : List ℕ) : Type 0 where
  pub whole : word ≡ word_of m r message
  pub encodes : Encodes m r message word

pub exact : (m r n : ℕ) (message before after : List ℕ) → n ≡ 2 ^ m → length before ≡ 2 ^ m → after ≡ word_of m r message ++ drop n before
    → ReadsBack m r (take n after) message → Exact m r message after
exact m r n message before after e l w b =
    let whole : after ≡ word_of m r message = grind (arith, common_steps) in
    record { whole = whole; encodes = subst (Encodes m r message) (take_all n after (omega (arith, ap length whole, length_word m r message))) b.encodes }

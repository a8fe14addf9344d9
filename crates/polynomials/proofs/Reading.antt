-- Messages and words give each other: a message is read back from its word, and a table of low degree is the word of what is read from it.
use Rattle.std.proofs.Common.{◌≡◌, ℕ, ◌*◌, ◌%◌, ◌^◌, ◌<◌, List, [], ◌∷◌, length, get_or, sym, ap, ◌∙◌, subst, inl, inr, mod-eq_of_lt, arith}
use lib.Bits.{bit_and}
use lib.Count.{ones}
use lib.ListN.{length-map}
use Rattle.std.specs.List.{AllByRecursion, range_with_len}
use Rattle.std.proofs.lemmas.Bool.{cases_eq, lt-leb, leb-false}
use Rattle.std.proofs.ByRecursion.{All-get_or, All-map}
use Rattle.std.proofs.lemmas.List.FromFn.{get_or-map-range_with_len, length-map-range_with_len, fill_by_all}
use Rattle.polynomials.specs.Monomials.{admits, monomials, value}
use Rattle.polynomials.specs.Messages.{Message}
use Rattle.polynomials.specs.Words.{sum_at, word_of, Table, Encodes}
use Rattle.polynomials.specs.Coefficients.{parts, coefficient, coefficients, Degree≤}
use Rattle.polynomials.specs.Laws.{WordsAreLowDegree, WordsDiffer}
use Rattle.polynomials.proofs.Sums.{total_parity}
use Rattle.polynomials.proofs.Halves.{value_yes, value_no}
use Rattle.polynomials.proofs.Inversion.{parts_ext, inversion}
use Rattle.polynomials.proofs.Counting.{monomials_counted}
use Rattle.polynomials.proofs.Lookup.{lookup, lookup_bit, lookup_unkept, map_kept_ext, map_lookup}
use Rattle.polynomials.proofs.Spreading.{spread, spread_all}

value_parity : (a b t : ℕ) → (value a b * (t % 2)) % 2 ≡ (value a b * t) % 2
value_parity a b t =
    elim (cases_eq (bit_and a b) a) [
      | inl e ↦ rw (value_yes a b e) (omega arith)
      | inr e ↦ rw (value_no a b e) (omega arith)
    ]

-- the word's coefficients are the message's
pub coefficient_word : (m r : ℕ) (message : List ℕ) (s : ℕ) → s < 2 ^ m
    → coefficient m (word_of m r message) s ≡ lookup (monomials m r) message s % 2
coefficient_word m r message s h =
    total_parity (2 ^ m) _ _ (λ p l.
    ap (λ t. (value p s * t) % 2) (get_or-map-range_with_len (λ p. sum_at (monomials m r) message p % 2) 0 (2 ^ m) p p 0 l (omega arith))
    ∙ value_parity p s (sum_at (monomials m r) message p))
    ∙ ap (λ t. t % 2) (parts_ext m (sum_at (monomials m r) message) (parts m (lookup (monomials m r) message)) s
    (λ p l. spread (admits r) (2 ^ m) p message))
    ∙ inversion m (lookup (monomials m r) message) s h

pub length_word : (m r : ℕ) (message : List ℕ) → length (word_of m r message) ≡ 2 ^ m
length_word m r message = length-map-range_with_len (λ p. sum_at (monomials m r) message p % 2) 0 (2 ^ m)

pub word_low_degree : (m r : ℕ) (message : List ℕ) → Degree≤ m r (word_of m r message)
word_low_degree m r message s h l =
    coefficient_word m r message s h
    ∙ ap (λ t. t % 2) (lookup_unkept (admits r) (2 ^ m) s (lt-leb (ones s) r l) message)

pub coefficients_of_word : (m r : ℕ) (message : List ℕ) → Message m r message → coefficients m r (word_of m r message) ≡ message
coefficients_of_word m r message v =
    map_kept_ext (admits r) (2 ^ m) (coefficient m (word_of m r message)) (lookup (monomials m r) message)
    (λ s l. coefficient_word m r message s l ∙ mod-eq_of_lt (lookup_bit (monomials m r) message s v.bits))
    ∙ map_lookup (admits r) (2 ^ m) message (v.long ∙ sym (monomials_counted m r))

pub word_of_coefficients : (m r : ℕ) (table : List ℕ) → Table m table → Degree≤ m r table → word_of m r (coefficients m r table) ≡ table
word_of_coefficients m r table t h =
    sym (fill_by_all (λ p. sum_at (monomials m r) (coefficients m r table) p % 2) table (2 ^ m) 0 t.long (λ p l. sym (at_point p l)))
  where
    at_point : (p : ℕ) → p < 2 ^ m → sum_at (monomials m r) (coefficients m r table) p % 2 ≡ get_or table p 0
    at_point p l =
        ap (λ t. t % 2) (spread_all (admits r) (2 ^ m) (coefficient m table) p (λ s k e. h s k (leb-false (ones s) r e)))
        ∙ total_parity (2 ^ m) _ _ (λ s k. value_parity s p (parts m (λ y. get_or table y 0) s))
        ∙ inversion m (λ y. get_or table y 0) p l
        ∙ mod-eq_of_lt (All-get_or (λ x. x < 2) table p 0 (omega (arith, t.long)) t.bits)

-- ---- the laws

all_any : (P : ℕ → Type 0) → ((x : ℕ) → P x) → (xs : List ℕ) → AllByRecursion P xs
all_any P h [] = tt
all_any P h (x ∷ xs) = (h x, all_any P h xs)

pub coefficients_message : (m r : ℕ) (table : List ℕ) → Message m r (coefficients m r table)
coefficients_message m r table = record {
  long = length-map (monomials m r) (coefficient m table) ∙ monomials_counted m r;
  bits = All-map (λ x. x < 2) (coefficient m table) (monomials m r) (all_any (λ s. coefficient m table s < 2) (λ s. omega arith) (monomials m r));
}

pub encodes_coefficients : (m r : ℕ) (table : List ℕ) → Table m table → Degree≤ m r table → Encodes m r (coefficients m r table) table
encodes_coefficients m r table t h = record { valid = coefficients_message m r table; word = word_of_coefficients m r table t h }

pub encodes_table : (m r : ℕ) (message table : List ℕ) → Encodes m r message table → Table m table
encodes_table m r message table e =
    subst (Table m) e.word (record {
      long = length_word m r message;
      bits = All-map (λ x. x < 2) (λ p. sum_at (monomials m r) message p % 2) (range_with_len 0 (2 ^ m)) (all_any (λ p. sum_at (monomials m r) message p % 2 < 2) (λ p. omega arith) (range_with_len 0 (2 ^ m)));
    })

pub encodes_low_degree : (m r : ℕ) (message table : List ℕ) → Encodes m r message table → Degree≤ m r table
encodes_low_degree m r message table e = subst (Degree≤ m r) e.word (word_low_degree m r message)

pub encodes_unique : (m r : ℕ) (message table : List ℕ) → Encodes m r message table → message ≡ coefficients m r table
encodes_unique m r message table e = sym (coefficients_of_word m r message e.valid) ∙ ap (coefficients m r) e.word

pub words_are_low_degree : WordsAreLowDegree
words_are_low_degree m r table t =
    (λ found. encodes_low_degree m r found.0 table found.1, λ h. (coefficients m r table, encodes_coefficients m r table t h))

pub words_differ : WordsDiffer
words_differ m r message table e = record {
  encodes = e;
  only = λ other o. encodes_unique m r other table o ∙ sym (encodes_unique m r message table e);
}

-- The first row that holds, through a chain of rows: what its number is, and what is known where none holds.
use Rattle.std.proofs.Common.{◌≡◌, ℕ, ◌+◌, ◌^◌, ◌<◌, ◌≤◌, Bool, true, false, cond, not, eqb, ltb, List, [], ◌∷◌, length, Some, None, Option, sym, refl, ap, ◌∙◌, subst, inl, inr, arith}
use Rattle.std.proofs.lemmas.Bool.{ltb-false, eqb-true, eq-eqb, le-ltb, cond-false, not-false}
use Rattle.polynomials.specs.Binomials.{dimension}
use Rattle.polynomials.specs.Messages.{Bits, Message}
use Rattle.polynomials.specs.Words.{Encodes}
use Rattle.polynomials.specs.Coefficients.{coefficients, Degree≤}
use Rattle.polynomials.proofs.Choosing.{no_row}
use Rattle.polynomials.proofs.Reading.{encodes_table, encodes_coefficients}
use Rattle.words.specs.Refusals.{Told, byte, row, row_at, number, size_row, byte_row, bytes_row, encode_row, ReadBackRow}

-- what holds of this row and of each row after it holds of the first row that holds
first_row : (P : Told → Type 0) (b : Bool) (x : Told) (later : Option Told) → P x → ((t : Told) → later ≡ Some t → P t)
    → (t : Told) → cond b (Some x) later ≡ Some t → P t
first_row P true x later p q t e = let same : x ≡ t = cc in subst P same p
first_row P false x later p q t e = q t e

byte_row_8 : (place : ℕ) (bs : List ℕ) (t : Told) → byte_row place bs ≡ Some t → number t < 10
byte_row_8 place [] t e = let z : ◌≡◌ {A = ℕ} 0 1 = cc in absurd (omega arith)
byte_row_8 place (b ∷ bs) t e =
    first_row (λ t. number t < 10) (ltb 1 b) (row_at 8 place (byte b)) (byte_row (place + 1) bs) (omega arith) (byte_row_8 (place + 1) bs) t e

-- a message or a table as asked: so many bits
pub record Asked (bytes : List ℕ) (asked : ℕ) : Type 0 where
  pub long : length bytes ≡ asked
  pub bits : Bits bytes

-- bytes with no row are bits
pub no_byte_row : (place : ℕ) (bs : List ℕ) → byte_row place bs ≡ None → Bits bs
no_byte_row place [] e = tt
no_byte_row place (b ∷ bs) e =
    let n = no_row (ltb 1 b) (row_at 8 place (byte b)) (byte_row (place + 1) bs) e in
    (omega (arith, ltb-false 1 b n.0), no_byte_row (place + 1) bs n.1)

bits_no_row : (place : ℕ) (bs : List ℕ) → Bits bs → byte_row place bs ≡ None
bits_no_row place [] h = refl
bits_no_row place (b ∷ bs) h = cond-false (ltb 1 b) _ _ (le-ltb 1 b (omega (arith, h.0))) ∙ bits_no_row (place + 1) bs h.1

module _ (m r : ℕ) (bytes : List ℕ) (asked room needed : ℕ) where
  rows_below_10 : (t : Told) → size_row m r (bytes_row bytes asked room needed) ≡ Some t → number t < 10
  rows_below_10 =
      first_row P (ltb 8 m) (row 1) _ (omega arith)
      (first_row P (ltb m r) (row 2) _ (omega arith)
      (first_row P (not (eqb (length bytes) asked)) (row 6) _ (omega arith)
      (first_row P (ltb room needed) (row 7) _ (omega arith)
      (byte_row_8 0 bytes))))
    where
      P : Told → Type 0
      P t = number t < 10

  -- where no row holds, the bytes are as asked
  pub rows_none_asked : size_row m r (bytes_row bytes asked room needed) ≡ None → Asked bytes asked
  rows_none_asked e =
      let n = no_row _ _ _ (no_row (ltb m r) _ _ (no_row (ltb 8 m) _ _ e).1).1 in
      record {
        long = eqb-true (length bytes) asked (not-false _ n.0);
        bits = no_byte_row 0 bytes (no_row _ _ _ n.1).1;
      }

  pub rows_none_bytes : size_row m r (bytes_row bytes asked room needed) ≡ None → byte_row 0 bytes ≡ None
  rows_none_bytes e = bits_no_row 0 bytes (rows_none_asked e).bits

  -- and where the sizes, the bytes and the room are as asked, no row holds
  pub asked_rows_none : m ≤ 8 → r ≤ m → Asked bytes asked → needed ≤ room → size_row m r (bytes_row bytes asked room needed) ≡ None
  asked_rows_none few low v long =
      cond-false _ _ _ (le-ltb 8 m few)
      ∙ cond-false _ _ _ (le-ltb m r low)
      ∙ cond-false _ _ _ (ap not (eq-eqb (length bytes) asked v.long))
      ∙ cond-false _ _ _ (le-ltb room needed long)
      ∙ bits_no_row 0 bytes v.bits

some_none : (o : Option Told) (t : Told) → Some t ≡ o → o ≡ None → ⊥
some_none o t p q = let z : ◌≡◌ {A = ℕ} 0 1 = cc in omega arith

-- a message is accepted wherever there is room for its word
pub message_encodable : (m r : ℕ) (message : List ℕ) (room : ℕ) (t : Told) → Message m r message → m ≤ 8 → r ≤ m → 2 ^ m ≤ room
    → Some t ≡ encode_row m r message room → ⊥
message_encodable m r message room t v few low long e =
    some_none _ t e (asked_rows_none m r message (dimension m r) room (2 ^ m) few low (record { long = v.long; bits = v.bits }) long)

-- row 10 comes only at a table of higher degree
pub row_10_degree : (m r : ℕ) (table : List ℕ) (room : ℕ) (t : Told) → ReadBackRow m r table room (Some t) → t ≡ row 10 → Degree≤ m r table → ⊥
row_10_degree m r table room t (inl e) ten low = omega (arith, rows_below_10 m r table (2 ^ m) room (dimension m r) t e, ap number ten)
row_10_degree m r table room t (inr e) ten low =
    let v = rows_none_asked m r table (2 ^ m) room (dimension m r) e.0 in
    e.2 (coefficients m r table) (encodes_coefficients m r table (record { long = v.long; bits = v.bits }) low)

-- a word is readable wherever there is room for its message
pub word_readable : (m r : ℕ) (message table : List ℕ) (room : ℕ) (t : Told) → Encodes m r message table → m ≤ 8 → r ≤ m → dimension m r ≤ room
    → ReadBackRow m r table room (Some t) → ⊥
word_readable m r message table room t w few low long (inl e) =
    let v = encodes_table m r message table w in
    some_none _ t (sym e) (asked_rows_none m r table (2 ^ m) room (dimension m r) few low (record { long = v.long; bits = v.bits }) long)
word_readable m r message table room t w few low long (inr e) = e.2 message w

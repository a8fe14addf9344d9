-- Bits packed into bytes read back, and bytes whose unused bits are 0 are packed again as they were.
use Rattle.std.proofs.Common.{◌≡◌, ℕ, zero, suc, ◌+◌, ◌-◌, ◌*◌, ◌/◌, ◌%◌, ◌^◌, ◌<◌, List, [], ◌∷◌, length, get_or, sym, ap, ◌∙◌, inl, inr, arith, below_none, below_more}
use native.Mathlib.Nat.{zero-div}
use Rattle.std.specs.List.{AllByRecursion, range_with_len}
use Rattle.std.proofs.lemmas.Nat.{field_of, mod-pow-add}
use Rattle.std.proofs.lemmas.List.{ext_get_or, get_or_past}
use Rattle.std.proofs.ByRecursion.{All-get_or, All-map}
use Rattle.std.proofs.lemmas.List.FromFn.{length-map-range_with_len, get_or-map-range_with_len}
use Rattle.std.proofs.lemmas.Bool.{cases_lt}
use Rattle.polynomials.specs.Sums.{total}
use Rattle.polynomials.specs.Messages.{Bits}
use Rattle.polynomials.proofs.Sums.{total_ext}
use Rattle.formats.specs.Packing.{bytes_needed, bit_from_top, unpacked, unused, packed_byte, packed}

-- ---- one byte and its eight bits

-- the byte of eight bits
abbrev byte_of : (ℕ → ℕ) → ℕ
byte_of f = total 8 (λ i. f i * 2 ^ (7 - i))

-- what holds at 0 to 7 holds of each number below 8
each_of_eight : (P : ℕ → Type 0) → P 0 → P 1 → P 2 → P 3 → P 4 → P 5 → P 6 → P 7 → (k : ℕ) → k < 8 → P k
each_of_eight P a b c d e f g h =
    below_more P 7 (below_more P 6 (below_more P 5 (below_more P 4
    (below_more P 3 (below_more P 2 (below_more P 1 (below_more P 0 (below_none P) a) b) c) d) e) f) g) h

bit_of_byte : (f : ℕ → ℕ) → ((i : ℕ) → f i < 2) → (place : ℕ) → place < 8 → bit_from_top (byte_of f) place ≡ f place
bit_of_byte f h =
    let h0 = h 0 in let h1 = h 1 in let h2 = h 2 in let h3 = h 3 in
    let h4 = h 4 in let h5 = h 5 in let h6 = h 6 in let h7 = h 7 in
    each_of_eight (λ place. bit_from_top (byte_of f) place ≡ f place)
    (omega arith) (omega arith) (omega arith) (omega arith) (omega arith) (omega arith) (omega arith) (omega arith)

byte_of_bits : (byte : ℕ) → byte < 256 → byte_of (bit_from_top byte) ≡ byte
byte_of_bits byte l = omega arith

-- the lowest k bits are 0 just where 2 ^ k divides the byte
low_bits_none : (byte k : ℕ) → byte % 2 ^ k ≡ 0 → (e : ℕ) → e < k → byte / 2 ^ e % 2 ≡ 0
low_bits_none byte k z e l =
    let j = k - e - 1 in
    let split : k ≡ (j + 1) + e = omega arith in
    let none : byte / 2 ^ e % 2 ^ (j + 1) ≡ 0
    = sym (field_of byte (j + 1) e) ∙ ap (λ t. byte % 2 ^ t / 2 ^ e) (sym split) ∙ ap (λ t. t / 2 ^ e) z ∙ zero-div (2 ^ e) in
    omega (arith, mod-pow-add (byte / 2 ^ e) j 1)

none_low_bits : (byte k : ℕ) → ((e : ℕ) → e < k → byte / 2 ^ e % 2 ≡ 0) → byte % 2 ^ k ≡ 0
none_low_bits byte zero h = omega arith
none_low_bits byte (suc k) h =
    let here = ap (λ t. t * 2 ^ k) (h k (omega arith)) in
    let below = none_low_bits byte k (λ e l. h e (omega arith)) in
    let split : suc k ≡ 1 + k = omega arith in
    ap (λ t. byte % 2 ^ t) split ∙ omega (arith, mod-pow-add byte 1 k)

-- ---- bits into bytes

pub length_packed : (bits : List ℕ) → length (packed bits) ≡ bytes_needed (length bits)
length_packed bits = length-map-range_with_len (packed_byte bits) 0 (bytes_needed (length bits))

pub length_unpacked : (n : ℕ) (bytes : List ℕ) → length (unpacked n bytes) ≡ n
length_unpacked n bytes = length-map-range_with_len (λ i. bit_from_top (get_or bytes (i / 8) 0) (i % 8)) 0 n

pub unpacked_bits : (n : ℕ) (bytes : List ℕ) → Bits (unpacked n bytes)
unpacked_bits n bytes = All-map (λ b. b < 2) (λ i. bit_from_top (get_or bytes (i / 8) 0) (i % 8)) (range_with_len 0 n) (go (range_with_len 0 n))
  where
    go : (places : List ℕ) → AllByRecursion (λ i. bit_from_top (get_or bytes (i / 8) 0) (i % 8) < 2) places
    go [] = tt
    go (i ∷ places) = (omega arith, go places)

module _ (bits : List ℕ) (h : Bits bits) where
  bit_below : (i : ℕ) → get_or bits i 0 < 2
  bit_below i = elim (cases_lt i (length bits)) [
    | inl l ↦ All-get_or (λ b. b < 2) bits i 0 l h
    | inr l ↦ omega (arith, get_or_past bits i 0 l)
  ]

  bit_packed : (j place : ℕ) → j < bytes_needed (length bits) → place < 8 → bit_from_top (get_or (packed bits) j 0) place ≡ get_or bits (8 * j + place) 0
  bit_packed j place l p =
      ap (λ byte. bit_from_top byte place) (get_or-map-range_with_len (packed_byte bits) 0 (bytes_needed (length bits)) j j 0 l (omega arith))
      ∙ bit_of_byte (λ i. get_or bits (8 * j + i) 0) (λ i. bit_below (8 * j + i)) place p

  pub unpacked_packed : unpacked (length bits) (packed bits) ≡ bits
  unpacked_packed =
      ext_get_or 0 (unpacked (length bits) (packed bits)) bits (length_unpacked (length bits) (packed bits))
      (λ i l.
      let within : i < length bits = omega (arith, length_unpacked (length bits) (packed bits)) in
      get_or-map-range_with_len (λ i. bit_from_top (get_or (packed bits) (i / 8) 0) (i % 8)) 0 (length bits) i i 0 within (omega arith)
      ∙ bit_packed (i / 8) (i % 8) (omega arith) (omega arith)
      ∙ ap (λ k. get_or bits k 0) (omega arith))

  pub unused_packed : 0 < length bits → unused (length bits) (packed bits) ≡ 0
  unused_packed some =
      let n = length bits in
      let last = bytes_needed n - 1 in
      none_low_bits (get_or (packed bits) last 0) (8 * bytes_needed n - n)
      (λ e l.
      let place : e ≡ 7 - (7 - e) = omega arith in
      ap (λ t. get_or (packed bits) last 0 / 2 ^ t % 2) place
      ∙ bit_packed last (7 - e) (omega arith) (omega arith)
      ∙ get_or_past bits (8 * last + (7 - e)) 0 (omega arith))

-- ---- bytes out of bits

module _ (n : ℕ) (bytes : List ℕ) (long : length bytes ≡ bytes_needed n) (small : AllByRecursion (λ b. b < 256) bytes) (clean : unused n bytes ≡ 0) where
  bit_unpacked : (j i : ℕ) → j < bytes_needed n → i < 8 → get_or (unpacked n bytes) (8 * j + i) 0 ≡ bit_from_top (get_or bytes j 0) i
  bit_unpacked j i l p = elim (cases_lt (8 * j + i) n) [
    | inl k ↦
        let byte : (8 * j + i) / 8 ≡ j = omega arith in
        let place : (8 * j + i) % 8 ≡ i = omega arith in
        get_or-map-range_with_len (λ i. bit_from_top (get_or bytes (i / 8) 0) (i % 8)) 0 n (8 * j + i) (8 * j + i) 0 k (omega arith)
        ∙ ap (λ t. bit_from_top (get_or bytes t 0) ((8 * j + i) % 8)) byte
        ∙ ap (bit_from_top (get_or bytes j 0)) place
    | inr k ↦
        let last : j ≡ bytes_needed n - 1 = omega arith in
        let low = ap (λ t. get_or bytes t 0 % 2 ^ (8 * bytes_needed n - n)) last ∙ clean in
        get_or_past (unpacked n bytes) (8 * j + i) 0 (omega (arith, length_unpacked n bytes))
        ∙ sym (low_bits_none (get_or bytes j 0) (8 * bytes_needed n - n) low (7 - i) (omega arith))
  ]

  pub packed_unpacked : packed (unpacked n bytes) ≡ bytes
  packed_unpacked =
      let bits = unpacked n bytes in
      let size = length_unpacked n bytes in
      let same : length (packed bits) ≡ length bytes = length_packed bits ∙ ap bytes_needed size ∙ sym long in
      ext_get_or 0 (packed bits) bytes same
      (λ j l.
      let within : j < bytes_needed n = omega arith in
      let counted : j < bytes_needed (length bits) = omega (arith, length_packed bits) in
      get_or-map-range_with_len (packed_byte bits) 0 (bytes_needed (length bits)) j j 0 counted (omega arith)
      ∙ total_ext 8 (λ i. get_or bits (8 * j + i) 0 * 2 ^ (7 - i)) (λ i. bit_from_top (get_or bytes j 0) i * 2 ^ (7 - i))
      (λ i p. ap (λ t. t * 2 ^ (7 - i)) (bit_unpacked j i within p))
      ∙ byte_of_bits (get_or bytes j 0) (All-get_or (λ b. b < 256) bytes j 0 (omega arith) small))

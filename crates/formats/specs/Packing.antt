-- Bits packed eight to a byte, the first in the highest bit.
use Rattle.std.specs.Prelude.{◌≡◌, ℕ, ◌+◌, ◌-◌, ◌*◌, ◌/◌, ◌%◌, ◌^◌, ◌<◌, List, map, length, slice_index}
use Rattle.std.specs.List.{range_with_len, AllByRecursion}
use Rattle.polynomials.specs.Sums.{total}
use Rattle.polynomials.specs.Messages.{Bits}

-- how many bytes so many bits need
abbrev pub bytes_needed : ℕ → ℕ
bytes_needed n = (n + 7) / 8

-- the bit of a byte at a place from 0 to 7, the highest at 0
abbrev pub bit_from_top : ℕ → ℕ → ℕ
bit_from_top byte place = byte / 2 ^ (7 - place) % 2

-- the first n bits that the bytes hold
abbrev pub unpacked : ℕ → List ℕ → List ℕ
unpacked n bytes = map (λ i. bit_from_top (slice_index bytes (i / 8)) (i % 8)) (range_with_len 0 n)

-- the unused bits of the last byte, after the first n, as a number: 0 where all of them are 0
abbrev pub unused : ℕ → List ℕ → ℕ
unused n bytes = slice_index bytes (bytes_needed n - 1) % 2 ^ (8 * bytes_needed n - n)

-- the byte that holds the eight bits from 8 * j on; bits that are missing count as 0
abbrev pub packed_byte : List ℕ → ℕ → ℕ
packed_byte bits j = total 8 (λ i. slice_index bits (8 * j + i) * 2 ^ (7 - i))

-- the bytes that hold the bits
abbrev pub packed : List ℕ → List ℕ
packed bits = map (packed_byte bits) (range_with_len 0 (bytes_needed (length bits)))

-- bits that are packed are unpacked again
abbrev pub PackedUnpacks : Type 0
PackedUnpacks = (bits : List ℕ) → Bits bits → unpacked (length bits) (packed bits) ≡ bits

-- bytes whose unused bits are 0 are packed again from the bits that they hold
abbrev pub UnpackedPacks : Type 0
UnpackedPacks = (n : ℕ) (bytes : List ℕ) → length bytes ≡ bytes_needed n → AllByRecursion (λ b. b < 256) bytes → unused n bytes ≡ 0 → packed (unpacked n bytes) ≡ bytes

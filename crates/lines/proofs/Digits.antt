-- Bits as digits.
use Rattle.std.proofs.Common.{◌≡◌, ℕ, ◌+◌, List, [], ◌∷◌, map, refl, ap₂, arith}
use Rattle.std.proofs.lemmas.Bool.Decides.{nat_tests}
use Rattle.polynomials.specs.Messages.{Bits}
use Rattle.lines.specs.Pieces.{digit}

-- the digits of bits are the bits, each moved by the code of 0
pub digits_bits : (bits : List ℕ) → Bits bits → map digit bits ≡ map (λ b. 48 + b) bits
digits_bits [] all = refl
digits_bits (b ∷ bits) all = ap₂ (λ x xs. x ∷ xs) (grind (arith, nat_tests)) (digits_bits bits all.1)

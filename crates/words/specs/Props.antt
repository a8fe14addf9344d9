-- Facts with at most one proof, as a ghost field asks.
use Rattle.std.specs.Prelude.{ℕ, ◌<◌, List}
use Rattle.std.specs.List.{AllByRecursion-prop}
use Rattle.std.specs.Coded.{le_prop}
use Rattle.polynomials.specs.Messages.{Bits}

-- that bytes are bits
pub bits_prop : (bytes : List ℕ) → IsProp (Bits bytes)
bits_prop bytes = AllByRecursion-prop (λ b. b < 2) (λ b. le_prop) bytes

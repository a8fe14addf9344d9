use Rattle.std.proofs.Common.{◌≡◌, take, drop}
use Rattle.polynomials.specs.Messages.{Bits}
use Rattle.words.specs.Refusals.{byte_row}
use Rattle.words.proofs.checks.check_bits.Given as goal

-- the bytes so far are bits, and the answer is that for the bytes left
abbrev pub invariant-loop-place : goal.invariant-loop-place
invariant-loop-place l = (byte_row l.place (drop l.place l.bytes) ≡ byte_row 0 l.bytes) × Bits (take l.place l.bytes)

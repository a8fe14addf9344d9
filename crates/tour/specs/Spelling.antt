-- Bits as text.
use Rattle.std.specs.Prelude.{ℕ, if◌then◌else◌, List, ◌==◌}
use Rattle.std.specs.List.{flat_map}

-- the one text for each 0, the other for each other byte
abbrev pub spell : List ℕ → List ℕ → List ℕ → List ℕ
spell zero one bytes = flat_map (λ b. if b == 0 then zero else one) bytes

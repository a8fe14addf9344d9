-- The readings of cells of either of two kinds.
use Rattle.either.specs.declared.Either.{Either}
use Rattle.either.specs.Either.{either}
use Rattle.cells.specs.Readings.{Reading}

-- the reading that its own kind gives the cell
abbrev pub either_reading : {A B : Type 0} → (A → Reading) → (B → Reading) → Either A B → Reading
either_reading one other = either one other

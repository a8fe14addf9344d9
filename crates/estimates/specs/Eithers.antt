-- The rule of an estimate that is one of two.
use Rattle.either.specs.declared.Either.{Either}
use Rattle.either.specs.Either.{either}
use Rattle.rules.specs.Rules.{Rule}

-- the rule of the one that is there
abbrev pub either_rule : {A B : Type 0} → (A → Rule) → (B → Rule) → Either A B → Rule
either_rule one other = either one other

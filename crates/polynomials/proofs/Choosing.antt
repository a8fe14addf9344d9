-- The first of several rows that holds: where none does, no single one does.
use Rattle.std.proofs.Common.{◌≡◌, ℕ, Bool, true, false, cond, Some, None, Option, refl, arith}

pub no_row : {X : Type 0} (b : Bool) (x : X) (later : Option X) → cond b (Some x) later ≡ None → (b ≡ false) × (later ≡ None)
no_row true x later e = let z : ◌≡◌ {A = ℕ} 0 1 = cc in absurd (omega arith)
no_row false x later e = (refl, e)

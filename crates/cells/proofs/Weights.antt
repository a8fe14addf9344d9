-- Where no cell is without a weight, what was written are the weights; and all of them are small.
use Rattle.std.proofs.Common.{◌≡◌, ℕ, ◌+◌, ◌≤◌, List, [], ◌∷◌, map, nat_abs, None, Ok, Err, refl, ap, lit≤}
use Rattle.std.specs.List.{AllByRecursion}
use Rattle.std.proofs.lemmas.Simd.{map-map}
use Rattle.cells.specs.Readings.{Reading, weight_or_0, InRange, cell_row, Weighed}

no_fault : (place : ℕ) (readings : List Reading) → cell_row place readings ≡ None → Weighed readings (map weight_or_0 readings)
no_fault place [] e = refl
no_fault place (Ok w ∷ later) e = ap (λ rs. Ok w ∷ rs) (no_fault (place + 1) later e)
no_fault place (Err fault ∷ later) e = cc

or_zero_small : (reading : Reading) → InRange reading → nat_abs (weight_or_0 reading) ≤ 127
or_zero_small (Ok w) h = h
or_zero_small (Err fault) h = lit≤ tt

module _ {C : Type 0} (reading : C → Reading) where
  pub all_weighed : (cells : List C) → cell_row 0 (map reading cells) ≡ None → Weighed (map reading cells) (map (λ cell. weight_or_0 (reading cell)) cells)
  all_weighed cells none = rw (← map-map weight_or_0 reading cells) (no_fault 0 (map reading cells) none)

  pub all_small : ((cell : C) → InRange (reading cell)) → (cells : List C) → AllByRecursion (λ w. nat_abs w ≤ 127) (map (λ cell. weight_or_0 (reading cell)) cells)
  all_small range [] = tt
  all_small range (cell ∷ cells) = (or_zero_small (reading cell) (range cell), all_small range cells)

-- With bit cells the cost of a word is its distance from the cells; and no cost is above the widest radius.
use Rattle.std.proofs.Common.{◌≡◌, ℕ, zero, suc, ◌*◌, ◌^◌, ◌<◌, ◌≤◌, cond, eqb, List, [], ◌∷◌, map, length, get_or, ℤ, pos, negsuc, nat_abs, Ok, sym, ap, ◌∙◌, arith, lit≤, pow_mono}
use Rattle.std.specs.List.{AllByRecursion}
use Rattle.std.proofs.ByRecursion.{All-get_or}
use Rattle.std.proofs.lemmas.Simd.{map-map}
use Rattle.std.proofs.lemmas.List.{length-map, get_or-map}
use Rattle.std.proofs.lemmas.Bool.Decides.{nat_tests}
use Rattle.polynomials.specs.Sums.{total}
use Rattle.polynomials.proofs.Sums.{total_ext}
use Rattle.cells.specs.Readings.{Reading, Weighed}
use Rattle.cells.specs.Bits.{bit_reading}
use Rattle.cells.specs.Costs.{pays, CostIsDistance, WidestRadius}

weighed_at : (cells : List ℕ) (weights : List ℤ) → Weighed (map bit_reading cells) weights → (point : ℕ) → point < length cells
    → bit_reading (get_or cells point 0) ≡ Ok (get_or weights point (pos 0))
weighed_at cells weights e point l =
    sym (get_or-map bit_reading cells point 0 (Ok (pos 0)) l)
    ∙ ap (λ rs. get_or rs point (Ok (pos 0))) e
    ∙ get_or-map Ok weights point (pos 0) (Ok (pos 0)) (omega (arith, ap length e, length-map cells bit_reading, length-map {B = Reading} weights Ok))

pays_where_they_differ : (byte bit : ℕ) (w : ℤ) → bit < 2 → bit_reading byte ≡ Ok w → pays w bit ≡ cond (eqb byte bit) 0 1
pays_where_they_differ byte bit (pos w) l e = grind (arith, nat_tests)
pays_where_they_differ byte bit (negsuc w) l e = grind (arith, nat_tests)

pub cost_is_distance : CostIsDistance
cost_is_distance m bits weights word long weighed t =
    let cells = map (λ cell. cell.byte) bits in
    let all = length-map bits (λ cell. cell.byte) in
    total_ext (2 ^ m) _ _
    (λ point l. pays_where_they_differ (get_or cells point 0) (get_or word point 0) (get_or weights point (pos 0))
    (All-get_or (λ b. b < 2) word point 0 (omega (arith, t.long)) t.bits)
    (weighed_at cells weights (map-map bit_reading (λ cell. cell.byte) bits ∙ weighed) point (omega (arith, all))))

at_most : (n bound : ℕ) (f : ℕ → ℕ) → ((i : ℕ) → f i ≤ bound) → total n f ≤ bound * n
at_most zero bound f h = omega arith
at_most (suc n) bound f h = omega (arith, at_most n bound f h, h n)

small_at : (weights : List ℤ) (point : ℕ) → AllByRecursion (λ w. nat_abs w ≤ 127) weights → nat_abs (get_or weights point (pos 0)) ≤ 127
small_at [] point h = lit≤ tt
small_at (w ∷ ws) zero h = h.0
small_at (w ∷ ws) (suc point) h = small_at ws point h.1

pays_at_most : (w : ℤ) (bit : ℕ) → pays w bit ≤ nat_abs w
pays_at_most (pos w) bit = grind arith
pays_at_most (negsuc w) bit = grind arith

pub widest_radius : WidestRadius
widest_radius m weights word few small =
    let points : 2 ^ m ≤ 2 ^ 8 = pow_mono few in
    omega (arith, at_most (2 ^ m) 127 (λ point. pays (get_or weights point (pos 0)) (get_or word point 0)) (λ point. omega (arith, pays_at_most (get_or weights point (pos 0)) (get_or word point 0), small_at weights point small)))

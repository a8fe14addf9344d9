-- Sums over the numbers below a bound: equal terms, no terms, two sums at once, a sum in two parts, parities.
use Rattle.std.proofs.Common.{◌≡◌, ℕ, zero, suc, ◌+◌, ◌%◌, ◌<◌, refl, ap₂, add-zero, add-suc, arith}
use Rattle.polynomials.specs.Sums.{total}

pub total_ext : (n : ℕ) (f g : ℕ → ℕ) → ((i : ℕ) → i < n → f i ≡ g i) → total n f ≡ total n g
total_ext zero f g h = refl
total_ext (suc n) f g h = ap₂ ◌+◌ (total_ext n f g (λ i l. h i (omega arith))) (h n (omega arith))

pub total_none : (n : ℕ) (f : ℕ → ℕ) → ((i : ℕ) → i < n → f i ≡ 0) → total n f ≡ 0
total_none zero f h = refl
total_none (suc n) f h = omega (arith, total_none n f (λ i l. h i (omega arith)), h n (omega arith))

pub total_add : (n : ℕ) (f g : ℕ → ℕ) → total n (λ i. f i + g i) ≡ total n f + total n g
total_add zero f g = refl
total_add (suc n) f g = omega (arith, total_add n f g)

pub total_split : (a b : ℕ) (f : ℕ → ℕ) → total (a + b) f ≡ total a f + total b (λ i. f (a + i))
total_split a zero f = rw (add-zero a) (omega arith)
total_split a (suc b) f = rw add-suc (omega (arith, total_split a b f))

pub total_parity : (n : ℕ) (f g : ℕ → ℕ) → ((i : ℕ) → i < n → f i % 2 ≡ g i % 2) → total n f % 2 ≡ total n g % 2
total_parity zero f g h = refl
total_parity (suc n) f g h = omega (arith, total_parity n f g (λ i l. h i (omega arith)), h n (omega arith))

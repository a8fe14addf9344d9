-- The listing of the messages within a radius, and the prefixes that are entered, by what a message costs and what a prefix is estimated at.
use Rattle.std.specs.Prelude.{ℕ, ◌-◌, ◌^◌, min, Bool, true, not, ◌&&◌, List, length, Some, None, filter, Option, nat_le}
use Rattle.std.specs.List.{list_all}
use Rattle.polynomials.specs.Messages.{earlier}
use Rattle.listings.specs.Order.{messages, prefixes, begins, beginnings, padded, any_pass}

-- the messages of k bits that cost at most T, in their order
abbrev pub within : ℕ → (List ℕ → ℕ) → ℕ → List (List ℕ)
within k price T = filter (λ w. nat_le (price w) T) (messages k)

-- whether a message comes after the last one handed out, where there was one
abbrev pub follows : Option (List ℕ) → List ℕ → Bool
follows None w = true
follows (Some last) w = earlier last w

-- whether a prefix followed by zeros does not come after the message handed out by this call, where one was
abbrev pub reached : ℕ → Option (List ℕ) → List ℕ → Bool
reached k None v = true
reached k (Some w) v = not (earlier w (padded k v))

-- whether a prefix is entered, where the messages that still count are those that pass q: one of them begins with it, every proper beginning of it is
-- estimated at most T, and it is reached
abbrev pub entered : ℕ → (List ℕ → ℕ) → ℕ → (List ℕ → Bool) → Option (List ℕ) → List ℕ → Bool
entered k estimate T q found v =
    any_pass (λ w. begins v w && q w) (messages k) && (list_all (λ u. nat_le (estimate u) T) (beginnings v) && reached k found v)

-- how many prefixes are entered
abbrev pub entries : ℕ → (List ℕ → ℕ) → ℕ → (List ℕ → Bool) → Option (List ℕ) → ℕ
entries k estimate T q found = length (filter (entered k estimate T q found) (prefixes k))

-- a count as it is told: 2 ^ 64 - 1 where there are more
abbrev pub counted : ℕ → ℕ
counted n = min n (2 ^ 64 - 1)

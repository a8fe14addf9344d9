-- Messages of k bits in their order, and their prefixes.
use Rattle.std.specs.Prelude.{ℕ, zero, suc, Bool, true, false, not, ◌&&◌, ◌||◌, List, [], ◌∷◌, ◌++◌, map, Some, None, filter, Option, ◌==◌}

-- all messages of k bits, the earlier before the later
abbrev pub messages : ℕ → List (List ℕ)
messages zero = [] ∷ []
messages (suc k) = map (λ w. 0 ∷ w) (messages k) ++ map (λ w. 1 ∷ w) (messages k)

-- all prefixes of messages of k bits, each before those that begin with it, and those that go on with 0 before those that go on with 1
abbrev pub prefixes : ℕ → List (List ℕ)
prefixes zero = [] ∷ []
prefixes (suc k) = [] ∷ (map (λ v. 0 ∷ v) (prefixes k) ++ map (λ v. 1 ∷ v) (prefixes k))

-- whether a message begins with this prefix
abbrev pub begins : List ℕ → List ℕ → Bool
begins [] w = true
begins (a ∷ v) [] = false
begins (a ∷ v) (b ∷ w) = a == b && begins v w

-- the proper beginnings of a prefix
abbrev pub beginnings : List ℕ → List (List ℕ)
beginnings [] = []
beginnings (a ∷ v) = [] ∷ map (λ u. a ∷ u) (beginnings v)

-- a prefix followed by zeros, k bits in all
abbrev pub padded : ℕ → List ℕ → List ℕ
padded zero v = v
padded (suc k) [] = 0 ∷ padded k []
padded (suc k) (a ∷ v) = a ∷ padded k v

-- whether two messages are the same
abbrev pub equal : List ℕ → List ℕ → Bool
equal [] [] = true
equal [] (b ∷ w) = false
equal (a ∷ v) [] = false
equal (a ∷ v) (b ∷ w) = a == b && equal v w

-- whether a message is among these
abbrev pub among : List (List ℕ) → List ℕ → Bool
among [] w = false
among (v ∷ vs) w = equal v w || among vs w

-- what is left of a list of messages once these have been handed out
abbrev pub remaining : List (List ℕ) → List (List ℕ) → List (List ℕ)
remaining handed ws = filter (λ w. not (among handed w)) ws

-- whether some element passes
abbrev pub any_pass : {X : Type 0} → (X → Bool) → List X → Bool
any_pass p [] = false
any_pass p (x ∷ xs) = p x || any_pass p xs

-- the first of a list, where it has one
abbrev pub first : {X : Type 0} → List X → Option X
first [] = None
first (x ∷ xs) = Some x

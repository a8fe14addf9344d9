-- What the listing and the entered prefixes are, in words of messages, words and prefixes.
use Rattle.std.specs.Prelude.{◌≡◌, ℕ, ◌<◌, ◌≤◌, true, ◌⊎◌, ◌↔◌, List, [], ◌∷◌, map, length, take, ℤ, Option}
use Rattle.std.specs.List.{AllByRecursion}
use Rattle.polynomials.specs.Binomials.{dimension}
use Rattle.polynomials.specs.Messages.{Bits, Message, earlier}
use Rattle.polynomials.specs.Words.{word_of, Encodes}
use Rattle.cells.specs.Costs.{Within}
use Rattle.rules.specs.Rules.{Rule, NowhereLower}
use Rattle.listings.specs.Order.{prefixes, begins}
use Rattle.listings.specs.Entering.{follows, reached, entered}
use Rattle.listings.specs.Listing.{listing, count_of}

-- x stands in the list
abbrev pub In : {X : Type 0} → X → List X → Type 0
In x [] = ⊥
In x (y ∷ ys) = (x ≡ y) ⊎ In x ys

-- none stands in the list twice
abbrev pub Once : {X : Type 0} → List X → Type 0
Once [] = Unit {0}
Once (x ∷ xs) = (In x xs → ⊥) × Once xs

-- each is earlier than all that stand behind it
abbrev pub Ordered : List (List ℕ) → Type 0
Ordered [] = Unit {0}
Ordered (x ∷ xs) = AllByRecursion (λ y. earlier x y ≡ true) xs × Ordered xs

-- the listing has every message whose word is within T, and no other, in prefix order; so it has every word of order r within T, and each once
abbrev pub ListingComplete : Type 0
ListingComplete =
    (m r : ℕ) (weights : List ℤ) (T : ℕ)
    → ((message : List ℕ) → In message (listing m r weights T) ↔ (Message m r message × Within T m weights (word_of m r message)))
    × Ordered (listing m r weights T)
    × ((table : List ℕ) → In table (map (word_of m r) (listing m r weights T)) ↔ (((message : List ℕ) × Encodes m r message table) × Within T m weights table))
    × Once (map (word_of m r) (listing m r weights T))

-- the prefixes of k bits: every list of at most k bits, each once
abbrev pub PrefixesComplete : Type 0
PrefixesComplete = (k : ℕ) → ((v : List ℕ) → In v (prefixes k) ↔ (Bits v × (length v ≤ k))) × Once (prefixes k)

-- a prefix is entered just where some message that begins with it comes after the last one handed out, every proper beginning of it is estimated at
-- most T, and, followed by zeros, it does not come after the message that the call hands out
abbrev pub EnteredMeans : Type 0
EnteredMeans =
    (m r : ℕ) (weights : List ℤ) (T : ℕ) (rule : Rule) (last found : Option (List ℕ)) (v : List ℕ)
    → (entered (dimension m r) (rule m r weights) T (follows last) found v ≡ true)
    ↔ (((message : List ℕ) × Message m r message × (begins v message ≡ true) × (follows last message ≡ true))
    × ((i : ℕ) → i < length v → rule m r weights (take i v) ≤ T)
    × (reached (dimension m r) found v ≡ true))

-- a rule that is nowhere lower enters no prefix that the other does not enter, and counts no more
abbrev pub FewerEntered : Type 0
FewerEntered =
    (m r : ℕ) (weights : List ℤ) (T : ℕ) (rule other : Rule) (last found : Option (List ℕ)) → NowhereLower m r weights rule other
    → ((v : List ℕ) → Bits v → length v ≤ dimension m r
    → entered (dimension m r) (rule m r weights) T (follows last) found v ≡ true → entered (dimension m r) (other m r weights) T (follows last) found v ≡ true)
    × (count_of m r weights T rule last found ≤ count_of m r weights T other last found)

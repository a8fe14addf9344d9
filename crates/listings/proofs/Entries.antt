-- What it means that a prefix is entered; and a rule that is nowhere lower enters no more.
use Rattle.std.proofs.Common.{◌≡◌, ℕ, zero, suc, ◌<◌, ◌≤◌, Bool, true, false, cond, ◌&&◌, leb, List, [], ◌∷◌, map, length, take, filter, sym, refl, ap, ◌∙◌, inl, inr, arith}
use Rattle.std.specs.List.{AllByRecursion, list_all}
use Rattle.std.proofs.ByRecursion.{All-map, All-weaker}
use Rattle.std.proofs.lemmas.Bool.{true≢false, leb-true, le-leb, and_parts, and_from, or_cases, or_left, or_right}
use Rattle.polynomials.specs.Binomials.{dimension}
use Rattle.polynomials.specs.Messages.{Bits, Message}
use Rattle.listings.specs.Order.{messages, prefixes, begins, beginnings, any_pass}
use Rattle.listings.specs.Entering.{follows, reached, entered}
use Rattle.listings.specs.Laws.{In, EnteredMeans, FewerEntered}
use Rattle.listings.proofs.Ordering.{messages_sized}
use Rattle.listings.proofs.Members.{all_in}
use Rattle.listings.proofs.Completeness.{message_in, prefixes_sized}

-- ---- some element passes

module _ {X : Type 0} (p : X → Bool) where
  some_passes : (x : X) (xs : List X) → In x xs → p x ≡ true → any_pass p xs ≡ true
  some_passes x [] h passes = absurd h
  some_passes x (y ∷ xs) (inl e) passes = or_left (p y) _ (ap p (sym e) ∙ passes)
  some_passes x (y ∷ xs) (inr h) passes = or_right (p y) _ (some_passes x xs h passes)

  passing : (xs : List X) → any_pass p xs ≡ true → (x : X) × In x xs × (p x ≡ true)
  passing [] h = absurd (true≢false (sym h))
  passing (x ∷ xs) h =
      elim (or_cases (p x) (any_pass p xs) h) [
        | inl passes ↦ (x, inl refl, passes)
        | inr later ↦ let found = passing xs later in (found.0, inr found.1, found.2)
      ]

-- ---- all proper beginnings of a prefix pass

pub all_pass_map : {X Y : Type 0} (p : Y → Bool) (f : X → Y) (xs : List X) → list_all p (map f xs) ≡ list_all (λ x. p (f x)) xs
all_pass_map p f [] = refl
all_pass_map p f (x ∷ xs) = ap (λ b. p (f x) && b) (all_pass_map p f xs)

beginning_passes : (p : List ℕ → Bool) (v : List ℕ) → list_all p (beginnings v) ≡ true → (i : ℕ) → i < length v → p (take i v) ≡ true
beginning_passes p [] h i l = absurd (omega arith)
beginning_passes p (a ∷ v) h zero l = (and_parts _ _ h).0
beginning_passes p (a ∷ v) h (suc i) l =
    beginning_passes (λ u. p (a ∷ u)) v (sym (all_pass_map p (λ u. a ∷ u) (beginnings v)) ∙ (and_parts _ _ h).1) i (omega arith)

beginnings_pass : (p : List ℕ → Bool) (v : List ℕ) → ((i : ℕ) → i < length v → p (take i v) ≡ true) → list_all p (beginnings v) ≡ true
beginnings_pass p [] h = refl
beginnings_pass p (a ∷ v) h =
    and_from _ _ (h 0 (omega arith))
    (all_pass_map p (λ u. a ∷ u) (beginnings v) ∙ beginnings_pass (λ u. p (a ∷ u)) v (λ i l. h (suc i) (omega arith)))

pub entered_means : EnteredMeans
entered_means m r weights T rule last found v = (means, meant)
  where
    k : ℕ
    k = dimension m r

    estimate : List ℕ → ℕ
    estimate = rule m r weights

    means : entered k estimate T (follows last) found v ≡ true
        → (((message : List ℕ) × Message m r message × (begins v message ≡ true) × (follows last message ≡ true))
        × ((i : ℕ) → i < length v → estimate (take i v) ≤ T)
        × (reached k found v ≡ true))
    means h =
        let some = and_parts (any_pass (λ w. begins v w && follows last w) (messages k)) _ h in
        let open' = and_parts (list_all (λ u. leb (estimate u) T) (beginnings v)) (reached k found v) some.1 in
        let w = passing (λ w. begins v w && follows last w) (messages k) some.0 in
        let sized = all_in _ w.0 (messages k) (messages_sized k) w.1 in
        let both = and_parts (begins v w.0) (follows last w.0) w.2 in (
          (w.0, record { long = sized.1; bits = sized.0 }, both.0, both.1),
          (λ i l. leb-true (estimate (take i v)) T (beginning_passes (λ u. leb (estimate u) T) v open'.0 i l)),
          open'.1,
        )

    meant : (((message : List ℕ) × Message m r message × (begins v message ≡ true) × (follows last message ≡ true))
        × ((i : ℕ) → i < length v → estimate (take i v) ≤ T)
        × (reached k found v ≡ true))
        → entered k estimate T (follows last) found v ≡ true
    meant h =
        and_from _ _
        (some_passes (λ w. begins v w && follows last w) h.0.0 (messages k) (message_in k h.0.0 h.0.1.bits h.0.1.long) (and_from _ _ h.0.2 h.0.3))
        (and_from _ _ (beginnings_pass (λ u. leb (estimate u) T) v (λ i l. le-leb (estimate (take i v)) T (h.1 i l))) h.2)

-- ---- where estimates are nowhere lower

kept_fewer : {X : Type 0} (p q : X → Bool) (xs : List X) → AllByRecursion (λ x. p x ≡ true → q x ≡ true) xs → length (filter p xs) ≤ length (filter q xs)
kept_fewer p q [] h = omega arith
kept_fewer p q (x ∷ xs) h = by_tests (p x) (q x) h.0 (kept_fewer p q xs h.1)
  where
    by_tests : (a b : Bool) → (a ≡ true → b ≡ true) → length (filter p xs) ≤ length (filter q xs)
        → length (cond a (x ∷ filter p xs) (filter p xs)) ≤ length (cond b (x ∷ filter q xs) (filter q xs))
    by_tests true true i l = omega arith
    by_tests true false i l = absurd (true≢false (sym (i refl)))
    by_tests false true i l = omega arith
    by_tests false false i l = l

all_pass_too : {X : Type 0} (p q : X → Bool) (xs : List X) → AllByRecursion (λ x. p x ≡ true → q x ≡ true) xs → list_all p xs ≡ true → list_all q xs ≡ true
all_pass_too p q [] h pass = refl
all_pass_too p q (x ∷ xs) h pass =
    let both = and_parts (p x) (list_all p xs) pass in
    and_from (q x) (list_all q xs) (h.0 both.0) (all_pass_too p q xs h.1 both.1)

beginnings_sized : (v : List ℕ) → Bits v → AllByRecursion (λ u. Bits u × (length u < length v)) (beginnings v)
beginnings_sized [] b = tt
beginnings_sized (a ∷ v) b =
    ((tt, omega arith), All-map _ _ _ (All-weaker _ _ (λ u p. ((b.0, p.0), omega (arith, p.1))) _ (beginnings_sized v b.1)))

pub fewer_entered : FewerEntered
fewer_entered m r weights T rule other last found lower = (too, omega (arith, fewer))
  where
    k : ℕ
    k = dimension m r

    too : (v : List ℕ) → Bits v → length v ≤ k
        → entered k (rule m r weights) T (follows last) found v ≡ true → entered k (other m r weights) T (follows last) found v ≡ true
    too v bits short h =
        let some = and_parts (any_pass (λ w. begins v w && follows last w) (messages k)) _ h in
        let open' = and_parts (list_all (λ u. leb (rule m r weights u) T) (beginnings v)) (reached k found v) some.1 in
        and_from _ _ some.0 (and_from _ _
        (all_pass_too _ (λ u. leb (other m r weights u) T) (beginnings v)
        (All-weaker _ _ (λ u p l. le-leb (other m r weights u) T (omega (arith, lower u p.0 (omega (arith, p.1, short)), leb-true (rule m r weights u) T l))) _
        (beginnings_sized v bits)) open'.0)
        open'.1)

    fewer : length (filter (entered k (rule m r weights) T (follows last) found) (prefixes k))
        ≤ length (filter (entered k (other m r weights) T (follows last) found) (prefixes k))
    fewer = kept_fewer _ _ (prefixes k) (All-weaker _ _ (λ v p. too v p.0 p.1) _ (prefixes_sized k))

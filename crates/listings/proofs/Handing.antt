-- One message after another is handed out of those within a radius: what is left of them, what follows the last one, and the next one.
use Rattle.std.proofs.Common.{◌≡◌, ℕ, true, false, not, eqb, List, [], ◌∷◌, ◌++◌, reverse, Some, filter, sym, refl, ap, ◌∙◌, subst, ap₂, inl, inr, append_assoc, arith}
use mathlib.Core.List.{reverse_aux, reverse-cons, reverse-reverse}
use Rattle.std.specs.List.{AllByRecursion}
use Rattle.std.proofs.lemmas.List.Elements.{filter-append}
use Rattle.std.proofs.ByRecursion.{All-weaker}
use Rattle.std.proofs.lemmas.Bool.{true≢false, eqb-true, eq-eqb, and_parts, and_from, or_left, or_right, or_from, cases_Bool}
use Rattle.polynomials.specs.Messages.{earlier}
use Rattle.listings.specs.Order.{first, equal, among, remaining}
use Rattle.listings.specs.Entering.{within, follows}
use Rattle.listings.specs.Laws.{Ordered}
use Rattle.listings.proofs.Keeping.{all_of, kept_all, kept_none, kept_behind}
use Rattle.listings.proofs.Ordering.{earlier_not_itself, earlier_one_way, within_ordered}

-- ---- of a list in order, what stands in front is earlier than what stands behind

in_front_earlier : (xs ys : List (List ℕ)) → Ordered (xs ++ ys) → AllByRecursion (λ x. AllByRecursion (λ y. earlier x y ≡ true) ys) xs
in_front_earlier [] ys o = tt
in_front_earlier (x ∷ xs) ys o = (behind xs o.0, in_front_earlier xs ys o.1)
  where
    behind : (xs : List (List ℕ)) → AllByRecursion (λ y. earlier x y ≡ true) (xs ++ ys) → AllByRecursion (λ y. earlier x y ≡ true) ys
    behind [] h = h
    behind (z ∷ zs) h = behind zs h.1

ordered_behind : (xs ys : List (List ℕ)) → Ordered (xs ++ ys) → Ordered ys
ordered_behind [] ys o = o
ordered_behind (x ∷ xs) ys o = ordered_behind xs ys o.1

all_reverse : {X : Type 0} (P : X → Type 0) (xs : List X) → AllByRecursion P xs → AllByRecursion P (reverse xs)
all_reverse P xs h = onto xs [] h tt
  where
    onto : (xs ys : List _) → AllByRecursion P xs → AllByRecursion P ys → AllByRecursion P (reverse_aux xs ys)
    onto [] ys h i = i
    onto (x ∷ xs) ys h i = onto xs (x ∷ ys) h.1 (h.0, i)

all_swapped : {X : Type 0} (R : X → X → Type 0) (xs ys : List X) → AllByRecursion (λ x. AllByRecursion (λ y. R x y) ys) xs → AllByRecursion (λ y. AllByRecursion (λ x. R x y) xs) ys
all_swapped R xs [] h = tt
all_swapped R xs (y ∷ ys) h = (All-weaker _ _ (λ x r. r.0) xs h, all_swapped R xs ys (All-weaker _ _ (λ x r. r.1) xs h))

-- ---- among the messages handed out are just they

equal_itself : (w : List ℕ) → equal w w ≡ true
equal_itself [] = refl
equal_itself (a ∷ w) = and_from _ _ (eq-eqb a a refl) (equal_itself w)

equal_same : (v w : List ℕ) → equal v w ≡ true → v ≡ w
equal_same [] [] h = refl
equal_same [] (b ∷ w) h = absurd (true≢false (sym h))
equal_same (a ∷ v) [] h = absurd (true≢false (sym h))
equal_same (a ∷ v) (b ∷ w) h =
    let p = and_parts (eqb a b) (equal v w) h in
    ap₂ {C = List ℕ} ◌∷◌ (eqb-true a b p.0) (equal_same v w p.1)

earlier_differ : (v w : List ℕ) → earlier v w ≡ true → equal v w ≡ false
earlier_differ v w h =
    elim (cases_Bool (equal v w)) [
      | inl same ↦ absurd (true≢false (sym h ∙ ap (earlier v) (sym (equal_same v w same)) ∙ earlier_not_itself v))
      | inr differ ↦ differ
    ]

all_among : (ws : List (List ℕ)) → AllByRecursion (λ w. among ws w ≡ true) ws
all_among [] = tt
all_among (w ∷ ws) = (or_left _ _ (equal_itself w), All-weaker _ _ (λ v h. or_right (equal w v) _ h) ws (all_among ws))

later_not_among : (ws : List (List ℕ)) (w : List ℕ) → AllByRecursion (λ v. earlier v w ≡ true) ws → among ws w ≡ false
later_not_among [] w h = refl
later_not_among (v ∷ vs) w h = or_from _ _ (earlier_differ v w h.0) (later_not_among vs w h.1)

-- ---- what is left, and what follows the last message

remaining_ordered : (handed rest : List (List ℕ)) → Ordered (reverse handed ++ rest) → remaining handed (reverse handed ++ rest) ≡ rest
remaining_ordered handed rest o =
    kept_behind (λ w. not (among handed w)) (reverse handed) rest
    (all_reverse _ handed (All-weaker _ _ (λ w h. ap not h) handed (all_among handed)))
    (All-weaker _ _ (λ w h. ap not (later_not_among handed w h)) rest (all_swapped (λ v w. earlier v w ≡ true) handed rest front))
  where
    front : AllByRecursion (λ v. AllByRecursion (λ w. earlier v w ≡ true) rest) handed
    front =
        subst (AllByRecursion (λ v. AllByRecursion (λ w. earlier v w ≡ true) rest)) (reverse-reverse handed)
        (all_reverse _ (reverse handed) (in_front_earlier (reverse handed) rest o))

behind_follows : (xs : List (List ℕ)) (w : List ℕ) (ys : List (List ℕ)) → Ordered (xs ++ w ∷ ys) → filter (earlier w) (xs ++ w ∷ ys) ≡ ys
behind_follows xs w ys o =
    filter-append (earlier w) xs (w ∷ ys)
    ∙ ap₂ ◌++◌ (kept_none (earlier w) xs (All-weaker _ _ (λ x h. earlier_one_way x w h.0) xs (in_front_earlier xs (w ∷ ys) o)))
    (rw (earlier_not_itself w) (kept_all (earlier w) ys (ordered_behind xs (w ∷ ys) o).0))

following_ordered : (handed rest : List (List ℕ)) → Ordered (reverse handed ++ rest) → filter (follows (first handed)) (reverse handed ++ rest) ≡ rest
following_ordered [] rest o = kept_all (λ _. true) rest (all_of _ (λ _. refl) rest)
following_ordered (w ∷ handed) rest o =
    ap (filter (earlier w)) apart ∙ behind_follows (reverse handed) w rest (subst Ordered apart o)
  where
    apart : reverse (w ∷ handed) ++ rest ≡ reverse handed ++ w ∷ rest
    apart = ap (λ ws. ws ++ rest) (reverse-cons w handed) ∙ append_assoc (reverse handed) (w ∷ []) rest

-- ---- where some messages have been handed out, the newest first, and the rest have not

module _ (k : ℕ) (price : List ℕ → ℕ) (T : ℕ) (handed rest : List (List ℕ)) (so_far : within k price T ≡ reverse handed ++ rest) where
  in_order : Ordered (reverse handed ++ rest)
  in_order = subst Ordered so_far (within_ordered k price T)

  -- what is left is the rest
  pub remaining_rest : remaining handed (within k price T) ≡ rest
  remaining_rest = ap (remaining handed) so_far ∙ remaining_ordered handed rest in_order

  -- what follows the last message handed out is the rest
  pub following_rest : filter (follows (first handed)) (within k price T) ≡ rest
  following_rest = ap (filter (follows (first handed))) so_far ∙ following_ordered handed rest in_order

  -- the first that is left is the first that follows the last message handed out
  pub first_remaining_follows : first (remaining handed (within k price T)) ≡ first (filter (follows (first handed)) (within k price T))
  first_remaining_follows = ap first (remaining_rest ∙ sym following_rest)

  -- with the first of the rest handed out, some are left again
  pub one_more_handed : (w : List ℕ) → first rest ≡ Some w → (later : List (List ℕ)) × (within k price T ≡ reverse (w ∷ handed) ++ later)
  one_more_handed w is = next rest is so_far
    where
      next : (rest : List (List ℕ)) → first rest ≡ Some w → within k price T ≡ reverse handed ++ rest
          → (later : List (List ℕ)) × (within k price T ≡ reverse (w ∷ handed) ++ later)
      next [] e s = let z : ◌≡◌ {A = ℕ} 0 1 = cc in absurd (omega arith)
      next (v ∷ later) e s =
          let same : v ≡ w = cc in
          (later, s ∙ ap (λ u. reverse handed ++ u ∷ later) same ∙ sym (ap (λ ws. ws ++ later) (reverse-cons w handed) ∙ append_assoc (reverse handed) (w ∷ []) later))

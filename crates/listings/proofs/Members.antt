-- What stands in joined, mapped and filtered lists, and what stands there once.
use Rattle.std.proofs.Common.{◌≡◌, ℕ, Bool, true, false, cond, ◌⊎◌, List, [], ◌∷◌, ◌++◌, map, filter, sym, refl, ap, ◌∙◌, subst, inl, inr}
use Rattle.std.specs.List.{AllByRecursion}
use Rattle.std.proofs.lemmas.Bool.{true≢false}
use Rattle.polynomials.specs.Messages.{earlier}
use Rattle.listings.specs.Laws.{In, Once, Ordered}
use Rattle.listings.proofs.Ordering.{earlier_not_itself}

module _ {X : Type 0} where
  pub in_append_left : (x : X) (xs ys : List X) → In x xs → In x (xs ++ ys)
  in_append_left x (y ∷ xs) ys (inl e) = inl e
  in_append_left x (y ∷ xs) ys (inr h) = inr (in_append_left x xs ys h)
  in_append_left x [] ys h = absurd h

  pub in_append_right : (x : X) (xs ys : List X) → In x ys → In x (xs ++ ys)
  in_append_right x [] ys h = h
  in_append_right x (y ∷ xs) ys h = inr (in_append_right x xs ys h)

  pub in_append_cases : (x : X) (xs ys : List X) → In x (xs ++ ys) → In x xs ⊎ In x ys
  in_append_cases x [] ys h = inr h
  in_append_cases x (y ∷ xs) ys (inl e) = inl (inl e)
  in_append_cases x (y ∷ xs) ys (inr h) = elim (in_append_cases x xs ys h) [ inl i ↦ inl (inr i) | inr i ↦ inr i ]

  pub all_in : (P : X → Type 0) (x : X) (xs : List X) → AllByRecursion P xs → In x xs → P x
  all_in P x [] all h = absurd h
  all_in P x (y ∷ xs) all (inl e) = subst P (sym e) all.0
  all_in P x (y ∷ xs) all (inr h) = all_in P x xs all.1 h

  pub in_kept : (p : X → Bool) (x : X) (xs : List X) → In x xs → p x ≡ true → In x (filter p xs)
  in_kept p x [] h passes = absurd h
  in_kept p x (y ∷ xs) (inl e) passes = subst (λ b. In x (cond b (y ∷ filter p xs) (filter p xs))) (sym (ap p (sym e) ∙ passes)) (inl e)
  in_kept p x (y ∷ xs) (inr h) passes =
      let rest = in_kept p x xs h passes in
      elim (p y) as (λ b. In x (cond b (y ∷ filter p xs) (filter p xs))) [ true ↦ inr rest | false ↦ rest ]

  pub kept_in : (p : X → Bool) (x : X) (xs : List X) → In x (filter p xs) → In x xs × (p x ≡ true)
  kept_in p x [] h = absurd h
  kept_in p x (y ∷ xs) h = by_test (p y) refl (kept_in p x xs) h
    where
      by_test : (b : Bool) → p y ≡ b → (In x (filter p xs) → In x xs × (p x ≡ true))
          → In x (cond b (y ∷ filter p xs) (filter p xs)) → In x (y ∷ xs) × (p x ≡ true)
      by_test true passes later (inl e) = (inl e, ap p e ∙ passes)
      by_test true passes later (inr h) = (inr (later h).0, (later h).1)
      by_test false passes later h = (inr (later h).0, (later h).1)

  pub once_append : (xs ys : List X) → Once xs → Once ys → ((x : X) → In x xs → In x ys → ⊥) → Once (xs ++ ys)
  once_append [] ys ox oy apart = oy
  once_append (x ∷ xs) ys ox oy apart = (
    λ h. elim (in_append_cases x xs ys h) [ inl i ↦ ox.0 i | inr i ↦ apart x (inl refl) i ],
    once_append xs ys ox.1 oy (λ y h i. apart y (inr h) i),
  )

  module _ {Y : Type 0} (f : X → Y) where
    pub in_map : (x : X) (xs : List X) → In x xs → In (f x) (map f xs)
    in_map x [] h = absurd h
    in_map x (y ∷ xs) (inl e) = inl (ap f e)
    in_map x (y ∷ xs) (inr h) = inr (in_map x xs h)

    pub map_in : (y : Y) (xs : List X) → In y (map f xs) → (x : X) × In x xs × (y ≡ f x)
    map_in y [] h = absurd h
    map_in y (x ∷ xs) (inl e) = (x, inl refl, e)
    map_in y (x ∷ xs) (inr h) = let found = map_in y xs h in (found.0, inr found.1, found.2)

    -- a map that tells apart all that pass a test keeps each once
    pub once_map : (P : X → Type 0) → ((x y : X) → P x → P y → f x ≡ f y → x ≡ y) → (xs : List X) → AllByRecursion P xs → Once xs → Once (map f xs)
    once_map P apart [] all o = tt
    once_map P apart (x ∷ xs) all o = (
      λ h. let found = map_in (f x) xs h in
          o.0 (subst (λ y. In y xs) (sym (apart x found.0 all.0 (all_in P found.0 xs all.1 found.1) found.2)) found.1),
      once_map P apart xs all.1 o.1,
    )

-- in order each stands once
pub ordered_once : (ws : List (List ℕ)) → Ordered ws → Once ws
ordered_once [] o = tt
ordered_once (w ∷ ws) o =
    (λ h. true≢false (sym (all_in (λ v. earlier w v ≡ true) w ws o.0 h) ∙ earlier_not_itself w), ordered_once ws o.1)

-- What a filter keeps: all, none, what stands behind, of mapped elements, and by another test that agrees.
use Rattle.std.proofs.Common.{◌≡◌, Bool, true, false, cond, List, [], ◌∷◌, ◌++◌, map, filter, refl, ap, ◌∙◌, ap₂}
use Rattle.std.specs.List.{AllByRecursion}
use Rattle.std.proofs.lemmas.List.Elements.{filter-append}

module _ {X : Type 0} where
  pub all_of : (P : X → Type 0) → ((x : X) → P x) → (xs : List X) → AllByRecursion P xs
  all_of P h [] = tt
  all_of P h (x ∷ xs) = (h x, all_of P h xs)

  pub kept_all : (p : X → Bool) (xs : List X) → AllByRecursion (λ x. p x ≡ true) xs → filter p xs ≡ xs
  kept_all p [] h = refl
  kept_all p (x ∷ xs) h = rw h.0 (ap (λ ys. x ∷ ys) (kept_all p xs h.1))

  pub kept_none : (p : X → Bool) (xs : List X) → AllByRecursion (λ x. p x ≡ false) xs → filter p xs ≡ []
  kept_none p [] h = refl
  kept_none p (x ∷ xs) h = rw h.0 (kept_none p xs h.1)

  pub kept_behind : (p : X → Bool) (xs ys : List X) → AllByRecursion (λ x. p x ≡ false) xs → AllByRecursion (λ y. p y ≡ true) ys → filter p (xs ++ ys) ≡ ys
  kept_behind p xs ys none all = filter-append p xs ys ∙ ap₂ ◌++◌ (kept_none p xs none) (kept_all p ys all)

  pub kept_same : (p q : X → Bool) (xs : List X) → AllByRecursion (λ x. p x ≡ q x) xs → filter p xs ≡ filter q xs
  kept_same p q [] h = refl
  kept_same p q (x ∷ xs) h = ap₂ (λ b ys. cond b (x ∷ ys) ys) h.0 (kept_same p q xs h.1)

  pub kept_map : {Y : Type 0} (p : Y → Bool) (f : X → Y) (xs : List X) → filter p (map f xs) ≡ map f (filter (λ x. p (f x)) xs)
  kept_map p f [] = refl
  kept_map {Y} p f (x ∷ xs) = rw (kept_map p f xs) (elim (p (f x)) as (λ b. cond b (f x ∷ map f kept) (map f kept) ≡ map f (cond b (x ∷ kept) kept)) [ true ↦ refl | false ↦ refl ])
    where
      kept : List X
      kept = filter (λ x. p (f x)) xs

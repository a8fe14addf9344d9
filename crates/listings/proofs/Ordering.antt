-- The messages of k bits stand in order, each of them k bits, and so do those within a radius.
use Rattle.std.proofs.Common.{◌≡◌, ℕ, zero, suc, ◌<◌, Bool, true, false, cond, eqb, ltb, leb, List, [], ◌∷◌, ◌++◌, map, length, filter, sym, refl, ap, ◌∙◌, inl, inr, arith}
use Rattle.std.specs.List.{AllByRecursion}
use Rattle.std.proofs.ByRecursion.{All-append, All-map, All-weaker, all_kept_by}
use Rattle.std.proofs.lemmas.Bool.{true≢false, eq-eqb, ne_eqb, ltb-true, le-ltb, cond-true, cond-false, cases_eq}
use Rattle.polynomials.specs.Messages.{Bits, earlier}
use Rattle.listings.specs.Order.{messages}
use Rattle.listings.specs.Entering.{within}
use Rattle.listings.specs.Laws.{Ordered}
use Rattle.listings.proofs.Keeping.{all_of}

-- ---- what is earlier

pub earlier_not_itself : (w : List ℕ) → earlier w w ≡ false
earlier_not_itself [] = refl
earlier_not_itself (a ∷ w) = cond-true (eqb a a) _ _ (eq-eqb a a refl) ∙ earlier_not_itself w

-- with the same first bit the order is that of what follows
pub earlier_same_bit : (b : ℕ) (x y : List ℕ) → earlier (b ∷ x) (b ∷ y) ≡ earlier x y
earlier_same_bit b x y = cond-true (eqb b b) _ _ (eq-eqb b b refl)

pub earlier_one_way : (x y : List ℕ) → earlier x y ≡ true → earlier y x ≡ false
earlier_one_way [] y h = absurd (true≢false (sym h))
earlier_one_way (a ∷ x) [] h = refl
earlier_one_way (a ∷ x) (b ∷ y) h =
    elim (cases_eq a b) [
      | inl same ↦
          cond-true (eqb b a) _ _ (eq-eqb b a (sym same))
          ∙ earlier_one_way x y (sym (cond-true (eqb a b) (earlier x y) (ltb a b) (eq-eqb a b same)) ∙ h)
      | inr differ ↦
          let less = ltb-true a b (sym (cond-false (eqb a b) (earlier x y) (ltb a b) (ne_eqb a b differ)) ∙ h) in
          cond-false (eqb b a) _ _ (ne_eqb b a (λ e. differ (sym e))) ∙ le-ltb b a (omega arith)
    ]

-- ---- lists in order

ordered_append : (xs ys : List (List ℕ)) → Ordered xs → Ordered ys → AllByRecursion (λ x. AllByRecursion (λ y. earlier x y ≡ true) ys) xs → Ordered (xs ++ ys)
ordered_append [] ys ox oy h = oy
ordered_append (x ∷ xs) ys ox oy h = (All-append _ _ _ ox.0 h.0, ordered_append xs ys ox.1 oy h.1)

ordered_under_bit : (b : ℕ) (xs : List (List ℕ)) → Ordered xs → Ordered (map (λ w. b ∷ w) xs)
ordered_under_bit b [] o = tt
ordered_under_bit b (x ∷ xs) o =
    (All-map _ _ _ (All-weaker _ _ (λ y h. earlier_same_bit b x y ∙ h) _ o.0), ordered_under_bit b xs o.1)

ordered_kept : (p : List ℕ → Bool) (xs : List (List ℕ)) → Ordered xs → Ordered (filter p xs)
ordered_kept p [] o = tt
ordered_kept p (x ∷ xs) o =
    elim (p x) as (λ b. Ordered (cond b (x ∷ filter p xs) (filter p xs))) [
      | true ↦ (all_kept_by p _ xs o.0, ordered_kept p xs o.1)
      | false ↦ ordered_kept p xs o.1
    ]

-- ---- all messages, and those within a radius

pub messages_ordered : (k : ℕ) → Ordered (messages k)
messages_ordered zero = (tt, tt)
messages_ordered (suc k) =
    ordered_append (map (λ w. 0 ∷ w) (messages k)) (map (λ w. 1 ∷ w) (messages k))
    (ordered_under_bit 0 (messages k) (messages_ordered k)) (ordered_under_bit 1 (messages k) (messages_ordered k))
    (All-map _ _ _ (all_of _ (λ x. All-map (λ y. earlier (0 ∷ x) y ≡ true) (λ w. 1 ∷ w) (messages k) (all_of _ (λ y. refl) (messages k))) (messages k)))

pub messages_sized : (k : ℕ) → AllByRecursion (λ w. Bits w × (length w ≡ k)) (messages k)
messages_sized zero = ((tt, refl), tt)
messages_sized (suc k) = All-append _ _ _ (half 0 (omega arith) (messages_sized k)) (half 1 (omega arith) (messages_sized k))
  where
    half : (b : ℕ) → b < 2 → AllByRecursion (λ w. Bits w × (length w ≡ k)) (messages k) → AllByRecursion (λ w. Bits w × (length w ≡ suc k)) (map (λ w. b ∷ w) (messages k))
    half b h all = All-map _ _ _ (All-weaker _ _ (λ w p. ((h, p.0), ap suc p.1)) _ all)

pub within_ordered : (k : ℕ) (price : List ℕ → ℕ) (T : ℕ) → Ordered (within k price T)
within_ordered k price T = ordered_kept (λ w. leb (price w) T) (messages k) (messages_ordered k)

pub within_sized : (k : ℕ) (price : List ℕ → ℕ) (T : ℕ) → AllByRecursion (λ w. Bits w × (length w ≡ k)) (within k price T)
within_sized k price T = all_kept_by (λ w. leb (price w) T) _ (messages k) (messages_sized k)

-- The messages, the prefixes and the listing are complete: each has what it should, nothing else, and each once.
use Rattle.std.proofs.Common.{◌≡◌, ℕ, zero, suc, ◌<◌, ◌≤◌, leb, List, [], ◌∷◌, ◌++◌, map, length, ℤ, sym, refl, ap, ◌∙◌, subst, inl, inr, arith}
use Rattle.std.specs.List.{AllByRecursion}
use Rattle.std.proofs.ByRecursion.{All-append, All-map, All-weaker}
use Rattle.std.proofs.lemmas.Bool.{leb-true, le-leb}
use Rattle.polynomials.specs.Binomials.{dimension}
use Rattle.polynomials.specs.Messages.{Bits, Message}
use Rattle.polynomials.specs.Words.{word_of, Encodes}
use Rattle.polynomials.proofs.Reading.{coefficients_of_word}
use Rattle.polynomials.specs.Coefficients.{coefficients}
use Rattle.cells.specs.Costs.{Within}
use Rattle.rules.specs.Rules.{cost_of}
use Rattle.listings.specs.Order.{messages, prefixes}
use Rattle.listings.specs.Listing.{listing}
use Rattle.listings.specs.Laws.{In, Once, ListingComplete, PrefixesComplete}
use Rattle.listings.proofs.Keeping.{all_of}
use Rattle.listings.proofs.Ordering.{messages_sized, within_ordered, within_sized}
use Rattle.listings.proofs.Members.{in_append_left, in_append_right, in_map, map_in, all_in, in_kept, kept_in, once_append, once_map, ordered_once}

-- ---- all messages, and all prefixes

pub message_in : (k : ℕ) (w : List ℕ) → Bits w → length w ≡ k → In w (messages k)
message_in zero [] bits long = inl refl
message_in zero (b ∷ w) bits long = absurd (omega arith)
message_in (suc k) [] bits long = absurd (omega arith)
message_in (suc k) (zero ∷ w) bits long = in_append_left _ _ _ (in_map (λ w. 0 ∷ w) w (messages k) (message_in k w bits.1 (omega arith)))
message_in (suc k) (suc zero ∷ w) bits long =
    in_append_right _ (map (λ w. 0 ∷ w) (messages k)) _ (in_map (λ w. 1 ∷ w) w (messages k) (message_in k w bits.1 (omega arith)))
message_in (suc k) (suc (suc b) ∷ w) bits long = absurd (omega (arith, bits.0))

prefix_in : (k : ℕ) (v : List ℕ) → Bits v → length v ≤ k → In v (prefixes k)
prefix_in zero [] bits short = inl refl
prefix_in zero (b ∷ v) bits short = absurd (omega arith)
prefix_in (suc k) [] bits short = inl refl
prefix_in (suc k) (zero ∷ v) bits short = inr (in_append_left _ _ _ (in_map (λ v. 0 ∷ v) v (prefixes k) (prefix_in k v bits.1 (omega arith))))
prefix_in (suc k) (suc zero ∷ v) bits short =
    inr (in_append_right _ (map (λ v. 0 ∷ v) (prefixes k)) _ (in_map (λ v. 1 ∷ v) v (prefixes k) (prefix_in k v bits.1 (omega arith))))
prefix_in (suc k) (suc (suc b) ∷ v) bits short = absurd (omega (arith, bits.0))

pub prefixes_sized : (k : ℕ) → AllByRecursion (λ v. Bits v × (length v ≤ k)) (prefixes k)
prefixes_sized zero = ((tt, omega arith), tt)
prefixes_sized (suc k) =
    ((tt, omega arith), All-append _ _ _ (half 0 (omega arith) (prefixes_sized k)) (half 1 (omega arith) (prefixes_sized k)))
  where
    half : (b : ℕ) → b < 2 → AllByRecursion (λ v. Bits v × (length v ≤ k)) (prefixes k) → AllByRecursion (λ v. Bits v × (length v ≤ suc k)) (map (λ v. b ∷ v) (prefixes k))
    half b h all = All-map _ _ _ (All-weaker _ _ (λ v p. ((h, p.0), omega (arith, p.1))) _ all)

once_under_bit : (b : ℕ) (vs : List (List ℕ)) → Once vs → Once (map (λ v. b ∷ v) vs)
once_under_bit b vs o = once_map (λ v. b ∷ v) (λ _. Unit {0}) (λ x y _ _ e. cc) vs (all_of _ (λ _. tt) vs) o

prefixes_once : (k : ℕ) → Once (prefixes k)
prefixes_once zero = (λ h. h, tt)
prefixes_once (suc k) = (
  not_empty,
  once_append (map (λ v. 0 ∷ v) (prefixes k)) (map (λ v. 1 ∷ v) (prefixes k))
      (once_under_bit 0 (prefixes k) (prefixes_once k)) (once_under_bit 1 (prefixes k) (prefixes_once k)) apart,
)
  where
    not_empty : In [] (map (λ v. 0 ∷ v) (prefixes k) ++ map (λ v. 1 ∷ v) (prefixes k)) → ⊥
    not_empty h =
        all_in (λ v. v ≡ [] → ⊥) [] _
        (All-append _ _ _ (All-map _ _ _ (all_of _ (λ v e. let z : ◌≡◌ {A = ℕ} 0 1 = cc in omega arith) (prefixes k)))
        (All-map _ _ _ (all_of _ (λ v e. let z : ◌≡◌ {A = ℕ} 0 1 = cc in omega arith) (prefixes k)))) h refl

    apart : (v : List ℕ) → In v (map (λ v. 0 ∷ v) (prefixes k)) → In v (map (λ v. 1 ∷ v) (prefixes k)) → ⊥
    apart v h i =
        let x = map_in (λ v. 0 ∷ v) v (prefixes k) h in
        let y = map_in (λ v. 1 ∷ v) v (prefixes k) i in
        let e : 0 ∷ x.0 ≡ 1 ∷ y.0 = sym x.2 ∙ y.2 in
        let z : ◌≡◌ {A = ℕ} 0 1 = cc in omega arith

pub prefixes_complete : PrefixesComplete
prefixes_complete k = (λ v. (all_in _ v (prefixes k) (prefixes_sized k), λ h. prefix_in k v h.0 h.1), prefixes_once k)

-- ---- the listing

module _ (m r : ℕ) (weights : List ℤ) (T : ℕ) where
  listed_message : (w : List ℕ) → In w (listing m r weights T) → Message m r w × Within T m weights (word_of m r w)
  listed_message w h =
      let found = kept_in (λ w. leb (cost_of m r weights w) T) w (messages (dimension m r)) h in
      let sized = all_in _ w (messages (dimension m r)) (messages_sized (dimension m r)) found.0 in
      (record { long = sized.1; bits = sized.0 }, leb-true (cost_of m r weights w) T found.1)

  message_listed : (w : List ℕ) → Message m r w → Within T m weights (word_of m r w) → In w (listing m r weights T)
  message_listed w v h =
      in_kept (λ w. leb (cost_of m r weights w) T) w (messages (dimension m r)) (message_in (dimension m r) w v.bits v.long) (le-leb (cost_of m r weights w) T h)

  -- different messages have different words, so no word stands there twice
  words_once : Once (map (word_of m r) (listing m r weights T))
  words_once =
      once_map (word_of m r) (Message m r) (λ x y vx vy e. sym (coefficients_of_word m r x vx) ∙ ap (coefficients m r) e ∙ coefficients_of_word m r y vy)
      (listing m r weights T)
      (All-weaker _ _ (λ w p. record { long = p.1; bits = p.0 }) _ (within_sized (dimension m r) (cost_of m r weights) T))
      (ordered_once _ (within_ordered (dimension m r) (cost_of m r weights) T))

  word_listed : (table : List ℕ) → In table (map (word_of m r) (listing m r weights T)) → ((message : List ℕ) × Encodes m r message table) × Within T m weights table
  word_listed table h =
      let found = map_in (word_of m r) table (listing m r weights T) h in
      let is = listed_message found.0 found.1 in
      ((found.0, record { valid = is.0; word = sym found.2 }), subst (Within T m weights) (sym found.2) is.1)

  listed_word : (table message : List ℕ) → Encodes m r message table → Within T m weights table → In table (map (word_of m r) (listing m r weights T))
  listed_word table message e h =
      subst (λ t. In t (map (word_of m r) (listing m r weights T))) e.word
      (in_map (word_of m r) message (listing m r weights T) (message_listed message e.valid (subst (Within T m weights) (sym e.word) h)))

pub listing_complete : ListingComplete
listing_complete m r weights T = (
  λ w. (listed_message m r weights T w, λ h. message_listed m r weights T w h.0 h.1),
  within_ordered (dimension m r) (cost_of m r weights) T,
  (λ table. (word_listed m r weights T table, λ h. listed_word m r weights T table h.0.0 h.0.1 h.1)),
  words_once m r weights T,
)

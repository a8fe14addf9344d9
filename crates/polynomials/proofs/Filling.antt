-- A buffer filled by a function of the place, one place after the other: the front is the function's, and the rest is as it was.
use Rattle.std.proofs.Common.{◌≡◌, ℕ, ◌+◌, ◌<◌, List, [], ◌∷◌, ◌++◌, map, length, take, drop, set, sym, ap, ◌∙◌, ap₂, arith, length-set}
use Rattle.std.specs.List.{range_with_len}
use Rattle.std.proofs.lemmas.List.{take_more_set, drop-set-lt, drop-drop, take-append-drop}
use Rattle.std.proofs.lemmas.List.FromFn.{map-range_with_len_more}

pub record Filling {Y : Type 0} (f : ℕ → Y) (before after : List Y) (done : ℕ) : Type 0 where
  pub front : take done after ≡ map f (range_with_len 0 done)
  pub rest : drop done after ≡ drop done before
  pub long : length after ≡ length before

module _ {Y : Type 0} (f : ℕ → Y) (before : List Y) where
  pub filling_more : (after : List Y) (i : ℕ) → Filling f before after i → i < length after → Filling f before (set after i (f i)) (i + 1)
  filling_more after i h l = record {
    front =
        take_more_set after i (f i) l
        ∙ ap (λ xs. xs ++ f i ∷ []) h.front
        ∙ sym (map-range_with_len_more f 0 i i (omega arith));
    rest =
        drop-set-lt (i + 1) after i (f i) (omega arith)
        ∙ sym (drop-drop 1 i after) ∙ ap (drop 1) h.rest ∙ drop-drop 1 i before;
    long = length-set after i (f i) ∙ h.long;
  }

  pub filling_all : (after : List Y) (n : ℕ) → Filling f before after n → after ≡ map f (range_with_len 0 n) ++ drop n before
  filling_all after n h = sym (take-append-drop n after) ∙ ap₂ {C = List Y} ◌++◌ h.front h.rest

-- Parts of bytes that others were put over: the part at their place is theirs, other parts stay, and a part put over itself changes nothing.
use Rattle.std.proofs.Common.{◌≡◌, ℕ, ◌+◌, ◌-◌, ◌<◌, ◌≤◌, min, ◌⊎◌, List, ◌++◌, length, get_or, take, drop, sym, refl, ap, ◌∙◌, inl, inr, arith}
use Rattle.std.proofs.lemmas.List.{length-take, length-drop, length-take-le, get_or_append_left, get_or-append_right, get_or-take, get_or-drop, take_at, drop_at, drop-drop, take-append-drop, ext_get_or}
use Rattle.formats.specs.Putting.{over, part}
use Rattle.formats.proofs.Putting.{length_over}

pub length_part : (place long : ℕ) (bytes : List ℕ) → place + long ≤ length bytes → length (part place long bytes) ≡ long
length_part place long bytes fits = simp (length-take, length-drop) (omega arith)

pub get_or_part : (place long : ℕ) (bytes : List ℕ) (i : ℕ) → i < long → get_or (part place long bytes) i 0 ≡ get_or bytes (place + i) 0
get_or_part place long bytes i l = get_or-take long (drop place bytes) i 0 l ∙ get_or-drop place bytes i 0

-- a part put over itself
pub over_part : (place long : ℕ) (bytes : List ℕ) → place + long ≤ length bytes → over place (part place long bytes) bytes ≡ bytes
over_part place long bytes fits =
    ap (λ n. take place bytes ++ (part place long bytes ++ drop (place + n) bytes)) (length_part place long bytes fits)
    ∙ ap (λ rest. take place bytes ++ (part place long bytes ++ rest)) (sym (drop-drop long place bytes))
    ∙ ap (λ rest. take place bytes ++ rest) (take-append-drop long (drop place bytes))
    ∙ take-append-drop place bytes

module _ (place : ℕ) (new bytes : List ℕ) (fits : place + length new ≤ length bytes) where
  pub part_over_same : part place (length new) (over place new bytes) ≡ new
  part_over_same =
      ap (take (length new)) (drop_at (take place bytes) (new ++ drop (place + length new) bytes) place (length-take-le place bytes (omega arith)))
      ∙ take_at new (drop (place + length new) bytes) (length new) refl

  get_or_over_other : (i : ℕ) → (i < place) ⊎ (place + length new ≤ i) → get_or (over place new bytes) i 0 ≡ get_or bytes i 0
  get_or_over_other i (inl l) =
      get_or_append_left (take place bytes) _ 0 i (omega (arith, length-take place bytes)) ∙ get_or-take place bytes i 0 l
  get_or_over_other i (inr l) =
      get_or-append_right (take place bytes) _ place i 0 (length-take-le place bytes (omega arith)) (omega arith)
      ∙ get_or-append_right new _ (length new) (i - place) 0 refl (omega arith)
      ∙ get_or-drop (place + length new) bytes (i - place - length new) 0
      ∙ ap (λ k. get_or bytes k 0) (omega arith)

  -- a part none of whose bytes was put over
  pub part_over_other : (from long : ℕ) → ((i : ℕ) → i < long → (from + i < place) ⊎ (place + length new ≤ from + i))
      → part from long (over place new bytes) ≡ part from long bytes
  part_over_other from long apart =
      let same : length (part from long (over place new bytes)) ≡ length (part from long bytes)
      = simp (length-take, length-drop) (ap (λ n. min long (n - from)) (length_over place new bytes fits)) in
      ext_get_or 0 (part from long (over place new bytes)) (part from long bytes) same
      (λ i l.
      let short : i < long = omega (arith, length-take long (drop from (over place new bytes))) in
      get_or_part from long (over place new bytes) i short
      ∙ get_or_over_other (from + i) (apart i short)
      ∙ sym (get_or_part from long bytes i short))

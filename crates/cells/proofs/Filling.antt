-- A buffer filled with a value for each item of a list, one item further.
use Rattle.std.proofs.Common.{◌≡◌, ℕ, suc, ◌+◌, ◌<◌, List, [], ◌∷◌, ◌++◌, map, length, get_or, take, drop, set, sym, ap, ◌∙◌, add-one, arith, append_assoc, length-take, drop-cons}
use Rattle.std.proofs.lemmas.List.{map_more, length-map}
use Rattle.std.proofs.Math.Seq.{set-append_seam}

pub filled_more : {X Y : Type 0} (f : X → Y) (items : List X) (before : List Y) (i : ℕ) (item : X) → i < length items → i < length before → item ≡ get_or items i item
    → set (map f (take i items) ++ drop i before) i (f item) ≡ map f (take (i + 1) items) ++ drop (i + 1) before
filled_more f items before i item l room e =
    let front = map f (take i items) in
    let long : length front ≡ i = simp (length-map, length-take) (omega arith) in
    let seam : set (front ++ drop i before) i (f item) ≡ front ++ f item ∷ drop (i + 1) before =
    rw (drop-cons before i (f item) room, add-one i)
    (ap (λ k. set (front ++ get_or before i (f item) ∷ drop (suc i) before) k (f item)) (sym long)
    ∙ set-append_seam front (get_or before i (f item)) (drop (suc i) before) (f item)) in
    seam ∙ sym (ap (λ ys. ys ++ drop (i + 1) before) (map_more f items i item l ∙ ap (λ x. front ++ f x ∷ []) (sym e)) ∙ append_assoc front (f item ∷ []) (drop (i + 1) before))

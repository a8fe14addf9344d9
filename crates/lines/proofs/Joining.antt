-- One piece more, put into the rest of a buffer after the pieces before it.
use Rattle.std.proofs.Common.{◌≡◌, ℕ, ◌+◌, ◌-◌, ◌<◌, ◌≤◌, List, [], ◌++◌, length, get_or, take, drop, sym, refl, ap, ◌∙◌, arith}
use Rattle.std.proofs.lemmas.List.{append_assoc, append-nil, take_all, drop_all, take_at, drop_at, take_more, drop-drop, length-append, length-drop, length-take}
use Rattle.std.proofs.lemmas.List.Concat.{flat_map-append}
use Rattle.std.proofs.lemmas.List.Folds.{length-flat_map-take}
use borrow.Rule.Slice.PartMut.{put_mid}
use Rattle.lines.specs.declared.pieces.Piece.{Piece}
use Rattle.lines.specs.Pieces.{bytes_of, text}

module _ (pieces : List Piece) (i end : ℕ) (d : Piece) (line : List ℕ) (more : i < length pieces) (here : end ≡ length (text (take i pieces))) where
  -- the rest has room for the piece
  pub rest_room : length (text pieces) ≤ length line → length (bytes_of (get_or pieces i d)) ≤ length (take (length line - end) (drop end line))
  rest_room room = simp (length-take, length-drop) (omega (arith, length-flat_map-take bytes_of pieces i d more))

  -- the text of the pieces grows by the piece
  text_more : text (take (i + 1) pieces) ≡ text (take i pieces) ++ bytes_of (get_or pieces i d)
  text_more = rw (take_more pieces i d more, flat_map-append, append-nil) refl

  -- and with it put there, the buffer holds the pieces as far as it, and then its further bytes
  pub puts_more : (n : ℕ) (first new : List ℕ) → length line ≡ length first → line ≡ text (take i pieces) ++ drop end first
      → n ≡ length (bytes_of (get_or pieces i d)) → new ≡ bytes_of (get_or pieces i d) ++ drop n (take (length line - end) (drop end line))
      → (end + n ≡ length (text (take (i + 1) pieces))) × (put_mid end (length line - end) line new ≡ text (take (i + 1) pieces) ++ drop (end + n) first)
  puts_more n first new same front long put =
      let k : ℕ = length line - end in
      let before : take end line ≡ text (take i pieces) = ap (take end) front ∙ take_at (text (take i pieces)) _ end (sym here) in
      let rest : drop end line ≡ drop end first = ap (drop end) front ∙ drop_at (text (take i pieces)) _ end (sym here) in
      let whole : take k (drop end line) ≡ drop end line = take_all k (drop end line) (omega (arith, length-drop end line)) in
      let after : drop k (drop end line) ≡ [] = drop_all k (drop end line) (omega (arith, length-drop end line)) in (
        omega (arith, ap length text_more, length-append (text (take i pieces)) (bytes_of (get_or pieces i d))),
        rw (put, before, after, whole, rest, append-nil, drop-drop, text_more, append_assoc) refl,
      )

-- Bytes put over others: the length stays, one piece after another is one piece, and one byte is a `set`.
use Rattle.std.proofs.Common.{◌≡◌, ℕ, ◌+◌, ◌<◌, ◌≤◌, List, [], ◌∷◌, ◌++◌, length, get_or, take, drop, set, sym, ap, ◌∙◌, ap₂, zero-add, add-one, arith}
use Rattle.std.proofs.lemmas.List.{append_assoc, length-append, length-take-le, length-drop, take_at, drop_at, drop-drop, set_split, take-append-drop, take_more, take_all}
use Rattle.formats.specs.Putting.{over}

pub length_over : (place : ℕ) (new bytes : List ℕ) → place + length new ≤ length bytes → length (over place new bytes) ≡ length bytes
length_over place new bytes l =
    let front : length (take place bytes) ≡ place = length-take-le place bytes (omega arith) in
    simp (length-append, length-drop) (omega arith)

-- at the beginning of the bytes
pub over_start : (new bytes : List ℕ) → over 0 new bytes ≡ new ++ drop (length new) bytes
over_start new bytes = ap (λ n. new ++ drop n bytes) (zero-add (length new))

-- nothing
pub over_none : (place : ℕ) (bytes : List ℕ) → over place [] bytes ≡ bytes
over_none place bytes = ap (λ n. take place bytes ++ drop n bytes) (omega arith) ∙ take-append-drop place bytes

-- one byte
pub over_byte : (place b : ℕ) (bytes : List ℕ) → place < length bytes → over place (b ∷ []) bytes ≡ set bytes place b
over_byte place b bytes l = ap (λ n. take place bytes ++ (b ∷ drop n bytes)) (add-one place) ∙ sym (set_split bytes place b l)

-- a piece after a piece
pub over_more : (place next : ℕ) (new more bytes : List ℕ) → place + length new ≤ length bytes → next ≡ place + length new
    → over next more (over place new bytes) ≡ over place (new ++ more) bytes
over_more place next new more bytes l e =
    let long : length (take place bytes ++ new) ≡ next = simp length-append (omega (arith, length-take-le place bytes (omega arith))) in
    let split : over place new bytes ≡ (take place bytes ++ new) ++ drop (place + length new) bytes
    = sym (append_assoc (take place bytes) new (drop (place + length new) bytes)) in
    let front : take next (over place new bytes) ≡ take place bytes ++ new = ap (take next) split ∙ take_at (take place bytes ++ new) _ next long in
    let rest : drop (next + length more) (over place new bytes) ≡ drop (place + length (new ++ more)) bytes
    = sym (drop-drop (length more) next (over place new bytes))
    ∙ ap (drop (length more)) (ap (drop next) split ∙ drop_at (take place bytes ++ new) _ next long)
    ∙ drop-drop (length more) (place + length new) bytes
    ∙ ap (λ n. drop n bytes) (omega (arith, length-append new more)) in
    ap₂ {C = List ℕ} (λ f t. f ++ (more ++ t)) front rest
    ∙ append_assoc (take place bytes) new (more ++ drop (place + length (new ++ more)) bytes)
    ∙ ap (λ t. take place bytes ++ t) (sym (append_assoc new more (drop (place + length (new ++ more)) bytes)))

-- a byte after a piece
pub over_push : (place next b : ℕ) (new bytes : List ℕ) → place + length new < length bytes → next ≡ place + length new
    → set (over place new bytes) next b ≡ over place (new ++ b ∷ []) bytes
over_push place next b new bytes l e =
    sym (over_byte next b (over place new bytes) (omega (arith, length_over place new bytes (omega arith))))
    ∙ over_more place next new (b ∷ []) bytes (omega arith) e

-- one byte more of a piece, and then all of it
pub over_take_more : (place i b : ℕ) (new bytes : List ℕ) → i < length new → place + length new ≤ length bytes → b ≡ get_or new i 0
    → set (over place (take i new) bytes) (place + i) b ≡ over place (take (i + 1) new) bytes
over_take_more place i b new bytes l room e =
    let long : length (take i new) ≡ i = length-take-le i new (omega arith) in
    over_push place (place + i) b (take i new) bytes (omega arith) (omega arith)
    ∙ ap (λ t. over place t bytes) (ap (λ x. take i new ++ x ∷ []) e ∙ sym (take_more new i 0 l))

pub over_take_all : (place i : ℕ) (new bytes : List ℕ) → length new ≤ i → over place (take i new) bytes ≡ over place new bytes
over_take_all place i new bytes l = ap (λ t. over place t bytes) (take_all i new l)

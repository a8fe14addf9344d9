-- The proof of each worked case, from the definitions.
use Rattle.std.proofs.Common.{◌≡◌, ℕ, ◌^◌, ◌<◌, List, Some, None, refl, inl, inr, arith, lit<}
use lib.Count.{ones, ones_in}
use lib.Ieee.{is_nan}
use Rattle.std.specs.Fmt.{digits}
use Rattle.polynomials.specs.Monomials.{value}
use Rattle.polynomials.specs.Binomials.{dimension}
use Rattle.polynomials.specs.Words.{word_of, Encodes}
use Rattle.polynomials.specs.Coefficients.{coefficient}
use Rattle.polynomials.proofs.Reading.{words_differ, encodes_low_degree}
use Rattle.words.specs.Refusals.{row, encode_row, table_row, ReadBackRow}
use Rattle.words.proofs.Rows.{rows_none_asked}
use Rattle.cases.specs.Cases.{ReadBackGives, wrote}
use Rattle.cases.specs.Table.{TableHolds}

-- the message is found whose word the table is
found : (m r room : ℕ) (message table : List ℕ) → table_row m r table room ≡ None → encode_row m r message (2 ^ m) ≡ None → word_of m r message ≡ table
    → ReadBackGives m r table room (wrote message)
found m r room message table e v w =
    let a = rows_none_asked m r message (dimension m r) (2 ^ m) (2 ^ m) v in
    let i : Encodes m r message table = record { valid = record { long = a.long; bits = a.bits }; word = w } in
    ((e, (message, i)), words_differ m r message table i)

-- a table with the coefficient 1 at a monomial of more than r variables is no word
no_word : (m r room : ℕ) (table : List ℕ) (s : ℕ) → table_row m r table room ≡ None → s < 2 ^ m → r < ones s → coefficient m table s ≡ 1
    → ReadBackRow m r table room (Some (row 10))
no_word m r room table s e l h c = inr (e, refl, λ message w. omega (arith, encodes_low_degree m r message table w s l h))

-- one case, and those after it
infixr 20 ◌and◌
◌and◌ : {A B : Type 0} → A → B → A × B
◌and◌ a b = (a, b)

pub table_holds : TableHolds
unfolding value ones ones_in is_nan digits
table_holds =
    refl
    and refl
    and (refl, refl)
    and refl
    and refl
    and refl
    and refl
    and refl
    and found 4 3 15 _ _ refl refl refl
    and inl refl
    and inl refl
    and no_word 2 1 3 _ 3 refl (lit< tt) (lit< tt) refl
    and refl
    and refl
    and refl
    and refl
    and refl
    and refl
    and refl
    and refl
    and refl
    and refl
    and refl
    and refl
    and refl
    and refl
    and refl
    and refl
    and refl
    and refl
    and refl
    and record { accepted = refl; m_is = refl; r_is = refl; t_is = refl; cells_are = refl; name_is = refl }
    and refl
    and refl
    and refl
    and refl
    and refl
    and refl
    and refl
    and refl
    and tt

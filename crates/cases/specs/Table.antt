-- The table of worked cases.
use Rattle.std.specs.Prelude.{ℕ, ◌-◌, true, false, List, [], ◌∷◌, map, pos, negsuc, Ok, Err, codes}
use Prim.Native.String.{String}
use Rattle.std.specs.Float.{nan, inf}
use Rattle.std.specs.List.{AllByRecursion}
use Rattle.formats.specs.Lines.{roll_line, word_line, end_line, stop_line, refused_line}
use Rattle.words.specs.Refusals.{byte, row, row_at}
use Rattle.words.specs.declared.refusals.Fault.TheVariants.{Byte, NotANumber, Level, Levels}
use Rattle.cases.specs.Samples.{nought, negative_nought, quarter, half, one, below_0, above_0, below_1, above_1, below_17, above_17, file}
use Rattle.cases.specs.Cases.{Case, Holds, refused, wrote, prefix_order, comes_first, encode, read_back, bit_reads, pixel_reads, word_costs, file_says, file_refused, line_reads}

-- the digits of a text as numbers
abbrev pub digits : String → List ℕ
digits text = map (λ c. c - 48) (codes text)

-- the cases, each with the answer that is proved of it
abbrev pub table : List Case
table =
    prefix_order 3 2 (digits "6543210")
    ∷ comes_first (digits "0111") (digits "1000")
    ∷ encode 4 3 (digits "001000110000101") 16 (wrote (digits "1100110100111101"))
    ∷ encode 9 0 (digits "1") 256 (refused (row 1))
    ∷ encode 3 4 (digits "1") 8 (refused (row 2))
    ∷ encode 3 1 (digits "010") 8 (refused (row 6))
    ∷ encode 3 1 (digits "0123") 7 (refused (row 7))
    ∷ encode 3 1 (digits "0123") 8 (refused (row_at 8 2 (byte 2)))
    ∷ read_back 4 3 (digits "1100110100111101") 15 (wrote (digits "001000110000101"))
    ∷ read_back 2 1 (digits "0009") 2 (refused (row 7))
    ∷ read_back 2 1 (digits "0009") 3 (refused (row_at 8 3 (byte 9)))
    ∷ read_back 2 1 (digits "0001") 3 (refused (row 10))
    ∷ bit_reads 0 (Ok (pos 1))
    ∷ bit_reads 1 (Ok (negsuc 0))
    ∷ bit_reads 2 (Err (Byte 2))
    ∷ pixel_reads nought one (Ok (pos 0))
    ∷ pixel_reads negative_nought one (Ok (pos 0))
    ∷ pixel_reads quarter half (Ok (negsuc 15))
    ∷ pixel_reads one one (Ok (pos 64))
    ∷ pixel_reads above_0 below_1 (Ok (negsuc 0))
    ∷ pixel_reads below_17 one (Ok (pos 16))
    ∷ pixel_reads above_17 one (Ok (pos 17))
    ∷ pixel_reads one nan (Err NotANumber)
    ∷ pixel_reads nan (inf true) (Err NotANumber)
    ∷ pixel_reads (inf true) (inf false) (Err (Level (inf true)))
    ∷ pixel_reads above_1 below_0 (Err (Level above_1))
    ∷ pixel_reads one below_0 (Err (Level below_0))
    ∷ pixel_reads half quarter (Err (Levels half quarter))
    ∷ word_costs 2 (pos 1 ∷ pos 1 ∷ pos 1 ∷ negsuc 0 ∷ []) (digits "0000") 1
    ∷ word_costs 1 (pos 64 ∷ negsuc 15 ∷ []) (digits "00") 16
    ∷ word_costs 1 (pos 64 ∷ negsuc 15 ∷ []) (digits "11") 64
    ∷ file_says file 2 1 1 (digits "0001") (codes "R1")
    ∷ file_refused (2 ∷ []) 13
    ∷ line_reads (roll_line (codes "R1")) "roll R1"
    ∷ line_reads (roll_line []) "roll "
    ∷ line_reads (word_line (digits "000") 1 4) "000 1 4"
    ∷ line_reads (word_line (digits "1") 32512 18446744073709551615) "1 32512 18446744073709551615"
    ∷ line_reads (end_line 4 0) "end 4 0"
    ∷ line_reads stop_line "stop 1000"
    ∷ line_reads (refused_line 14) "refused 14"
    ∷ []

-- every case of the table holds
abbrev pub TableHolds : Type 0
TableHolds = AllByRecursion Holds table

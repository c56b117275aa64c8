-- The definitions at small files of words and at lines of a RAM, worked out by hand.
use Rattle.std.proofs.Common.{◌≡◌, ◌++◌, ◌∷◌, [], ℕ, List, refl}
use Rattle.std.specs.Prelude.{codes, Bool, true, false, ◌&&◌, ◌||◌, ◌==◌, Some, None, replicate}
use Rattle.index_search.specs.Places.{any_below, least_below, first_below, gathered_below}
use Rattle.text_lines.specs.Lines.{lines_of, whole_lines_of, trimmed}
use Rattle.text_lines.specs.Words.{words_of, pieces_of, from_word, number_of, numbers_of}
use Rattle.hex.specs.Hex.{encode_with, decode_pairs}
use Rattle.bit_plane.specs.BitList.{word_of}
use Rattle.asc_text.specs.Rows.{ram_line_bytes}
use Rattle.asc_text.specs.Statements.{statement_in}
use Rattle.asc_text.specs.Blocks.{depth_at, opened_before, statement_over, statement_at}
use Rattle.bram_replace.specs.declared.fault.BramFault.TheVariants.{Shape, SameColumns}
use Rattle.bram_replace.specs.declared.fault.HexFault.TheVariants.{Digit, Width, Depth}
use Rattle.bram_replace.specs.HexText.{Contents, before_comment, hex_fault_of, bits_in, contents_of}
use Rattle.bram_replace.specs.Columns.{same_fault, match_of}
use Rattle.asc_text.specs.Characters.{tile_statement}
use Rattle.bram_replace.specs.ReadModes.{RamBits, by_columns, no_modes, read_mode}
use Rattle.bram_replace.specs.Replaced.{ram_bits, ram_column, bits_after, columns_found, memory_line_with, line_after, replaced, found_in, shape_fault}

-- ---- files of words

-- an underscore doesn't count, a digit is in either case, and the last digit has the lowest four bits
two_digits : contents_of (codes "A_1 // F\r\n") ≡ record {
  digits = 2;
  words = (true ∷ false ∷ false ∷ false ∷ false ∷ true ∷ false ∷ true ∷ []) ∷ [];
}
unfolding lines_of words_of pieces_of from_word before_comment bits_in contents_of gathered_below
two_digits = refl

-- a word is no block of 256
one_word : hex_fault_of (codes "A_1 // F\r\n") ≡ Some Depth
unfolding lines_of words_of pieces_of from_word first_below before_comment hex_fault_of gathered_below
one_word = refl

bad_digit : hex_fault_of (codes "A1\n//\nA1 G1 1\n") ≡ Some (Digit 3)
unfolding lines_of words_of pieces_of from_word first_below before_comment hex_fault_of gathered_below
bad_digit = refl

other_width : hex_fault_of (codes "A1\n//\nA1 1\n") ≡ Some (Width 3)
unfolding lines_of words_of pieces_of from_word first_below before_comment hex_fault_of gathered_below
other_width = refl

-- ---- columns

-- four bits, one of them 1 at most
abbrev word_with_bit : ℕ → List Bool
word_with_bit k = (k == 0) ∷ (k == 1) ∷ (k == 2) ∷ (k == 3) ∷ []

-- 256 words of one digit: column c has a 1 in word c alone
abbrev old_words : Contents
old_words = record { digits = 1; words = word_with_bit 0 ∷ word_with_bit 1 ∷ word_with_bit 2 ∷ word_with_bit 3 ∷ replicate 252 (word_with_bit 4) }

-- the same in the turned order: column c has a 1 in word 3 - c alone
abbrev new_words : Contents
new_words = record { digits = 1; words = word_with_bit 3 ∷ word_with_bit 2 ∷ word_with_bit 1 ∷ word_with_bit 0 ∷ replicate 252 (word_with_bit 4) }

-- a RAM whose bits 15 and 9 are both column 1, and whose other bits are no column
abbrev before : RamBits
before word bit = (word == 1) && ((bit == 15) || (bit == 9))

all_different : same_fault old_words ≡ None
unfolding least_below first_below same_fault
all_different = refl

all_equal : same_fault (record { digits = 1; words = replicate 256 (word_with_bit 4) }) ≡ Some (SameColumns 0 1)
unfolding least_below first_below same_fault
all_equal = refl

other_shape : shape_fault old_words (record { digits = 2; words = [] }) ≡ Some Shape
other_shape = refl

second_column : match_of old_words (ram_column before 15) ≡ Some 1
unfolding least_below match_of
second_column = refl

no_column : match_of old_words (ram_column before 14) ≡ None
unfolding least_below match_of
no_column = refl

-- the bit is that of column 1 of the second file, which has its 1 in word 2
moved_from : bits_after old_words new_words 0 before 1 15 ≡ false
unfolding least_below match_of
moved_from = refl

moved_to : bits_after old_words new_words 0 before 2 15 ≡ true
unfolding least_below match_of
moved_to = refl

found_twice : columns_found old_words (by_columns 0 before) 1 ≡ 9 ∷ 15 ∷ []
unfolding gathered_below
found_twice = refl

found_nowhere : columns_found old_words (by_columns 0 before) 0 ≡ []
unfolding gathered_below
found_nowhere = refl

-- ---- read modes

-- a RAM of mode 2, whose word 0 has the lowest bits of the words 0, 2, 1 and 3 of the memory in its first four bits: bit 3 of the
-- memory is column 1 in the first block of 256 words
abbrev narrow : RamBits
narrow word bit = (word == 0) && (bit == 14)

-- the same in the second block, which begins with word 64 of the RAM
abbrev narrow_later : RamBits
narrow_later word bit = (word == 64) && (bit == 14)

narrow_found : columns_found old_words (by_columns 2 narrow) 1 ≡ 3 ∷ []
unfolding gathered_below
narrow_found = refl

narrow_found_later : columns_found old_words (by_columns 2 narrow_later) 1 ≡ 7 ∷ []
unfolding gathered_below
narrow_found_later = refl

narrow_from : bits_after old_words new_words 2 narrow 0 14 ≡ false
unfolding least_below match_of
narrow_from = refl

narrow_to : bits_after old_words new_words 2 narrow 0 13 ≡ true
unfolding least_below match_of
narrow_to = refl

-- row 2 of the tile above a RAM is worth 2
mode_two : read_mode (lines_of (codes ".ramt_tile 3 2\n0\n0\n00000001\n00000000\n")) 3 1 ≡ 2
unfolding lines_of trimmed words_of pieces_of from_word number_of numbers_of statement_in depth_at opened_before statement_at tile_statement least_below
mode_two = refl

-- a RAM without a tile above it has mode 0
mode_zero : read_mode (lines_of (codes ".ramt_tile 3 2\n0\n0\n00000001\n00000000\n")) 3 3 ≡ 0
unfolding lines_of trimmed words_of pieces_of from_word number_of numbers_of statement_in depth_at opened_before statement_at tile_statement least_below
mode_zero = refl

-- ---- lines of a RAM

-- sixteen words, the first of them ABCD, with blanks and the line's end after them
abbrev digits : List ℕ
digits = codes "000000000000000000000000000000000000000000000000000000000000ABCD"

abbrev given : RamBits
given = ram_bits (digits ∷ digits ∷ [])

-- bit 3 of word 1 becomes a 1
abbrev changed : RamBits
changed word bit = ((word == 1) && (bit == 3)) || given word bit

-- a line with a word that changes gets all its digits anew, in lower case, and keeps the text after them
line_changes : memory_line_with given changed 0 (digits ++ codes " \t\r\n")
    ≡ codes "00000000000000000000000000000000000000000000000000000000" ++ codes "0008abcd \t\r\n"
unfolding any_below trimmed encode_with decode_pairs word_of ram_line_bytes gathered_below
line_changes = refl

-- a line whose words all stay is as it was
line_stays : memory_line_with given changed 1 (digits ++ codes " \t\r\n") ≡ digits ++ codes " \t\r\n"
unfolding any_below trimmed encode_with decode_pairs word_of ram_line_bytes
line_stays = refl

-- ---- whole texts

-- lines outside of RAMs stay, with their ends
text_stays : replaced (codes ".device 1k \r\n\n.comment\nA") old_words new_words no_modes ≡ codes ".device 1k \r\n\n.comment\nA"
unfolding lines_of whole_lines_of trimmed words_of pieces_of from_word number_of numbers_of statement_in depth_at opened_before statement_over line_after replaced gathered_below
text_stays = refl

-- and no column is found
none_found : found_in (codes ".device 1k \r\n") old_words no_modes ≡ 0 ∷ 0 ∷ 0 ∷ 0 ∷ []
unfolding lines_of trimmed words_of pieces_of from_word number_of numbers_of statement_in depth_at opened_before statement_at found_in gathered_below
none_found = refl

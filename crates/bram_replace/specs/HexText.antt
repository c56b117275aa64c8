-- A file of memory words in hexadecimal digits, as `icebram` of Project IceStorm takes it: its words, and what is wrong with it.
-- Lines count from 1 in refusals, and from 0 here.
use Rattle.std.specs.Prelude.{◌≡◌, ℕ, ◌+◌, ◌/◌, ◌%◌, Bool, false, not, ◌&&◌, ◌||◌, List, [], ◌∷◌, length, map, filter, flat_map, reverse, nat_lt, ◌==◌, if◌then◌else◌, Option, Some, None}
use Rattle.std.specs.List.{list_all, list_any}
use Rattle.std.specs.Option.{option_map_or}
use Rattle.hex.specs.Hex.{is_hex_digit, hex_digit_value}
use Rattle.index_search.specs.Places.{first_below, gathered_below, or_else}
use Rattle.text_lines.specs.Lines.{lines_of, line_at}
use Rattle.text_lines.specs.Words.{words_of}
use Rattle.text_lines.specs.declared.words.Separators.TheVariants.{Whitespace}
use Rattle.bram_replace.specs.declared.fault.HexFault.{HexFault}
use Rattle.bram_replace.specs.declared.fault.HexFault.TheVariants.{Digit, Width, Depth, Memory}

-- what contracts see of a file that was read: how many digits each word has, and the bits of each word, the lowest first
pub record Contents : Type 0 where
  pub digits : ℕ
  pub words : List (List Bool)

-- ---- lines and words

abbrev pub begins_with_slash : List ℕ → Bool
begins_with_slash [] = false
begins_with_slash (byte ∷ bytes) = byte == 47

-- two slashes begin a comment
abbrev pub begins_comment : List ℕ → Bool
begins_comment [] = false
begins_comment (byte ∷ bytes) = (byte == 47) && begins_with_slash bytes

-- a line up to a comment
unfoldable pub before_comment : List ℕ → List ℕ
before_comment [] = []
before_comment (byte ∷ bytes) = if begins_comment (byte ∷ bytes) then [] else byte ∷ before_comment bytes

-- the words of a line, separated by spaces, tabs and CRs
abbrev pub words_in : List ℕ → List (List ℕ)
words_in line = words_of Whitespace (before_comment line)

-- the digits of a word, without the underscores between them
abbrev pub digits_in : List ℕ → List ℕ
digits_in word = filter is_hex_digit word

-- a word of digits and underscores with at least one digit
abbrev pub is_word : List ℕ → Bool
is_word word = list_all (λ byte. is_hex_digit byte || (byte == 95)) word && list_any is_hex_digit word

-- the words of the lines before a line
abbrev pub words_before : List (List ℕ) → ℕ → List (List ℕ)
words_before lines n = gathered_below n (λ k. words_in (line_at lines k))

-- the first of some words sets the number of digits
abbrev pub digits_set : List (List ℕ) → ℕ
digits_set [] = 0
digits_set (word ∷ words) = length (digits_in word)

-- a word with another number of digits than the one that is set, or with more than 64
abbrev pub is_misfit : ℕ → List ℕ → Bool
is_misfit digits word = not (length (digits_in word) == digits) || nat_lt 64 (length (digits_in word))

-- ---- faults

-- what is wrong with a line of these words, by the number of digits that is set up to it
abbrev pub words_cause : ℕ → List (List ℕ) → ℕ → Option HexFault
words_cause digits words line =
    if not (list_all is_word words) then Some (Digit line)
    else if list_any (is_misfit digits) words then Some (Width line)
    else None

-- what is wrong with a line
abbrev pub line_cause : List (List ℕ) → ℕ → Option HexFault
line_cause lines n = words_cause (digits_set (words_before lines (n + 1))) (words_in (line_at lines n)) (n + 1)

-- complete blocks of 256 words, at least one
abbrev pub is_depth : ℕ → Bool
is_depth count = not (count == 0) && (count % 256 == 0)

-- the number of words is not that of complete blocks
abbrev pub depth_cause : ℕ → Option HexFault
depth_cause count = if is_depth count then None else Some Depth

-- all words of a text
abbrev pub all_words : List ℕ → List (List ℕ)
all_words text = words_before (lines_of text) (length (lines_of text))

-- the first faulty line, or else the number of words
unfoldable pub hex_fault_of : List ℕ → Option HexFault
hex_fault_of text =
    or_else (first_below (length (lines_of text)) (line_cause (lines_of text))) (depth_cause (length (all_words text)))

-- a refusal is this one, unless memory ran out
abbrev pub TellsHex : Option HexFault → HexFault → Type 0
TellsHex fault (Memory e) = Unit {0}
TellsHex fault told = fault ≡ Some told

-- ---- what a file says

-- the four bits of a digit's value, the lowest first
abbrev pub digit_bits : ℕ → List Bool
digit_bits value = (value % 2 == 1) ∷ (value / 2 % 2 == 1) ∷ (value / 4 % 2 == 1) ∷ (value / 8 % 2 == 1) ∷ []

-- the bits of a byte of a word, and none of an underscore
abbrev pub byte_bits : ℕ → List Bool
byte_bits byte = option_map_or digit_bits (hex_digit_value byte) []

-- the bits of a word, the lowest first: its last digit has the lowest four
unfoldable pub bits_in : List ℕ → List Bool
bits_in word = flat_map byte_bits (reverse word)

-- what a file without a fault says
unfoldable pub contents_of : List ℕ → Contents
contents_of text = record { digits = digits_set (all_words text); words = map bits_in (all_words text) }

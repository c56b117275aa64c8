-- Lines and words of a database. Spaces and tabs separate words. A line that begins with a dot is a statement, one that begins with `#` is
-- a comment (a remark), and a line without a word says nothing. Source: Project IceStorm, 'icebox chip database'.
use Rattle.std.specs.Prelude.{ℕ, ◌-◌, Bool, true, false, ◌&&◌, ◌||◌, List, [], ◌∷◌, length, take, drop, get_or, nat_le, ◌==◌, if◌then◌else◌, Option, Some, None}
use Rattle.std.specs.List.{list_all, before_first, after_first}
use Rattle.text_lines.specs.declared.words.Separators.TheVariants.{SpacesAndTabs}
use Rattle.text_lines.specs.Words.{words_of, number_of}
use Rattle.plane_map.specs.declared.tile.RowCol.{RowCol}

-- the words of a line
abbrev pub words_in : List ℕ → List (List ℕ)
words_in line = words_of SpacesAndTabs line

-- a line that begins with a dot
abbrev pub is_statement : List ℕ → Bool
is_statement line = get_or line 0 0 == 46

-- a line that begins with `#`
abbrev pub is_remark : List ℕ → Bool
is_remark line = get_or line 0 0 == 35

-- the words that a line has for the statement above it; none if the line is a statement or a comment
unfoldable pub own_words : List ℕ → List (List ℕ)
own_words line = if is_statement line || is_remark line then [] else words_in line

-- no word
abbrev pub has_none : List (List ℕ) → Bool
has_none [] = true
has_none (word ∷ words) = false

-- ---- bits

-- a bit by its row and column, if both are numbers
abbrev pub bit_by : Option ℕ → Option ℕ → Option RowCol
bit_by (Some row) (Some col) = Some (record { row = row; col = col })
bit_by row col = None

-- the bytes without the first and the last one
abbrev pub inside : List ℕ → List ℕ
inside word = take (length word - 2) (drop 1 word)

abbrev pub is_bracket : ℕ → Bool
is_bracket byte = byte == 91

-- the bit that a word names, which is written `B<row>[<column>]`
unfoldable pub bit_of : List ℕ → Option RowCol
bit_of word =
    if nat_le 2 (length word) && (get_or word 0 0 == 66) && (get_or word (length word - 1) 0 == 93)
    then bit_by (number_of (before_first is_bracket (inside word))) (number_of (after_first is_bracket (inside word)))
    else None

-- a bit in front of others, if each of them exists
abbrev pub with_bit : Option RowCol → Option (List RowCol) → Option (List RowCol)
with_bit (Some bit) (Some bits) = Some (bit ∷ bits)
with_bit bit bits = None

-- the bits that words name, if each word names one
unfoldable pub bits_of : List (List ℕ) → Option (List RowCol)
bits_of [] = Some []
bits_of (word ∷ words) = with_bit (bit_of word) (bits_of words)

-- ---- values

-- one `0` or `1` for each of `count` bits
abbrev pub is_values : ℕ → List ℕ → Bool
is_values count word = (length word == count) && list_all (λ byte. (byte == 48) || (byte == 49)) word

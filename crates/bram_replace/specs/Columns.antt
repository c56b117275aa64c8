-- Columns of a file of memory words: one bit of 256 words, as the usage text of Project IceStorm's `icebram` has them. Columns, words and
-- bits count from 0.
use Rattle.std.specs.Prelude.{ℕ, ◌+◌, ◌*◌, ◌/◌, ◌%◌, Bool, true, false, not, ◌&&◌, List, [], ◌∷◌, length, get_or, map, nat_lt, Option}
use Rattle.std.specs.List.{range_with_len}
use Rattle.std.specs.Option.{option_map}
use Rattle.index_search.specs.Places.{least_below, first_below}
use Rattle.bram_replace.specs.declared.fault.BramFault.{BramFault}
use Rattle.bram_replace.specs.declared.fault.BramFault.TheVariants.{SameColumns}
use Rattle.bram_replace.specs.HexText.{Contents}

-- how many bits a word has
abbrev pub width_of : Contents → ℕ
width_of file = 4 * file.digits

-- a column for each bit of each block of 256 words
abbrev pub column_count : Contents → ℕ
column_count file = length file.words / 256 * width_of file

-- a bit of a word
abbrev pub bit_in : List (List Bool) → ℕ → ℕ → Bool
bit_in words word bit = get_or (get_or words word []) bit false

-- a bit of a column: column s * width + b has bit b of the words from 256 * s on
abbrev pub column_bit : Contents → ℕ → ℕ → Bool
column_bit file column word = bit_in file.words (256 * (column / width_of file) + word) (column % width_of file)

-- 256 bits from the bit of each word
abbrev pub column_from : (ℕ → Bool) → List Bool
column_from bit = map bit (range_with_len 0 256)

-- a column
abbrev pub column_at : Contents → ℕ → List Bool
column_at file column = column_from (column_bit file column)

-- all columns, in their order
unfoldable pub columns_of : Contents → List (List Bool)
columns_of file = map (column_at file) (range_with_len 0 (column_count file))

abbrev pub is_same_bit : Bool → Bool → Bool
is_same_bit true bit = bit
is_same_bit false bit = not bit

-- whether two columns are equal
abbrev pub is_same : List Bool → List Bool → Bool
is_same [] [] = true
is_same (bit ∷ bits) (other ∷ others) = is_same_bit bit other && is_same bits others
is_same bits others = false

-- whether the second column is later than the first and equal to it
abbrev pub is_repeat : Contents → ℕ → ℕ → Bool
is_repeat file first second = nat_lt first second && is_same (column_at file first) (column_at file second)

-- the refusal of a column that is equal to a later one, with the first such later one
abbrev pub repeat_fault : Contents → ℕ → Option BramFault
repeat_fault file first = option_map (SameColumns first) (least_below (column_count file) (is_repeat file first))

-- the refusal of the first column that is equal to a later one
unfoldable pub same_fault : Contents → Option BramFault
same_fault file = first_below (column_count file) (repeat_fault file)

-- the first column that is equal to these bits
unfoldable pub match_of : Contents → List Bool → Option ℕ
match_of file bits = least_below (column_count file) (λ column. is_same (column_at file column) bits)

-- The rows of a tile, each the bits of a word.
use Rattle.std.proofs.Common.{◌≡◌, ℕ, ◌/◌, ◌^◌, ◌<◌, ◌==◌, Bool, false, List, [], length, get_or, set, map, replicate, bit_and, sym, ap, ◌∙◌, arith}
use Rattle.std.proofs.lemmas.List.{get_or-map, map-set, length-map}
use Rattle.std.proofs.lemmas.Nat.Bits.{shr_and_one}
use Rattle.bit_plane.specs.BitList.{word_bits, word_of}
use Rattle.bit_plane.specs.Rows.{Rows, IsGrid, row_at, bit_at, with_row, with_bit, blank}
use Rattle.bit_plane.proofs.Words.{length-word_bits}
use Rattle.bit_plane.proofs.Words.{get_or-word_bits, word_of-word_bits, word_bits-zeros}

-- each row has the width that was asked for
pub IsGrid-words : (width height : ℕ) (words : List ℕ) → length words ≡ height → IsGrid width height (map (word_bits width) words)
IsGrid-words width height words tall = record {
  height_is = length-map words (word_bits width) ∙ tall;
  width_is = λ y within.
      ap length (get_or-map (word_bits width) words y 0 [] (omega arith)) ∙ length-word_bits width (get_or words y 0);
}

-- the words 0 are blank
pub words-zeros : (width height : ℕ) → replicate height (word_bits width 0) ≡ blank width height
unfolding blank
words-zeros width height = ap (replicate height) (word_bits-zeros width)

-- a bit is that of the row's word
pub bit_at-words : (width : ℕ) (words : List ℕ) (rows : Rows) (x y : ℕ) → map (word_bits width) words ≡ rows → y < length words → x < width → (bit_and (get_or words y 0 / 2 ^ x) 1 == 1) ≡ bit_at rows x y
bit_at-words width words rows x y view row column =
    ap (λ m. m == 1) (shr_and_one (get_or words y 0) x) ∙ sym (get_or-word_bits width (get_or words y 0) x column) ∙ sym (ap (λ bits. get_or bits x false) (get_or-map (word_bits width) words y 0 [] row)) ∙ ap (λ rows. bit_at rows x y) view

-- a row's word is that of its bits
pub row_at-words : (width : ℕ) (words : List ℕ) (rows : Rows) (y : ℕ) → map (word_bits width) words ≡ rows → y < length words → get_or words y 0 < 2 ^ width → get_or words y 0 ≡ word_of (row_at rows y)
row_at-words width words rows y view row small =
    sym (word_of-word_bits width (get_or words y 0) small) ∙ sym (ap word_of (get_or-map (word_bits width) words y 0 [] row)) ∙ ap (λ rows. word_of (row_at rows y)) view

-- to give a row another word is to give it that word's bits
pub with_row-words : (width : ℕ) (words : List ℕ) (rows : Rows) (y word : ℕ) → map (word_bits width) words ≡ rows → map (word_bits width) (set words y word) ≡ with_row rows y (word_bits width word)
with_row-words width words rows y word view =
    map-set (word_bits width) words y word ∙ ap (λ rows. with_row rows y (word_bits width word)) view

-- to give a row a word with another bit is to give it that bit
pub with_bit-words : (width : ℕ) (words : List ℕ) (rows : Rows) (x y word : ℕ) (bit : Bool) → map (word_bits width) words ≡ rows → y < length words → word_bits width word ≡ set (word_bits width (get_or words y 0)) x bit → map (word_bits width) (set words y word) ≡ with_bit rows x y bit
with_bit-words width words rows x y word bit view row other =
    with_row-words width words rows y word view ∙ ap (with_row rows y) (other ∙ ap (λ bits. set bits x bit) (sym (get_or-map (word_bits width) words y 0 [] row) ∙ ap (λ rows. row_at rows y) view))

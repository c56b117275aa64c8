-- How a plane keeps its bits: in words of sixty-four, the first bit of each word the bit of value 1.
use Rattle.std.proofs.Common.{◌≡◌, ℕ, ◌+◌, ◌*◌, ◌/◌, ◌-◌, Bool, false, List, [], ◌∷◌, length, take, drop, replicate, flat_map, refl, ap, arith, length-append, length-take-le, zero, suc}
use Rattle.bit_plane.specs.BitList.{word_bits}
use Rattle.bit_plane.specs.Rows.{Rows, IsGrid, rows_of}
use Rattle.bit_plane.specs.Cut.{IsGrid-rows_of}

-- the bits of words, one word after the other: bit p is bit p % 64 of word p / 64
unfoldable pub packed : List ℕ → List Bool
packed words = flat_map (word_bits 64) words

-- the rows whose bits are kept in words, one row after the other
abbrev pub rows_in : ℕ → ℕ → List ℕ → Rows
rows_in width height words = rows_of width height (take (width * height) (packed words))

-- no bit from place `size` on is set, so words with the same bits before it are the same words
abbrev pub IsClearFrom : ℕ → List ℕ → Type 0
IsClearFrom size words = drop size (packed words) ≡ replicate (64 * length words - size) false

-- the list has `count` bits
pub length-word_bits : (count n : ℕ) → length (word_bits count n) ≡ count
unfolding word_bits
length-word_bits zero n = refl
length-word_bits (suc count) n = ap suc (length-word_bits count (n / 2))

-- sixty-four bits a word
pub length-packed : (words : List ℕ) → length (packed words) ≡ 64 * length words
unfolding packed
length-packed [] = refl
length-packed (word ∷ words) =
    omega (arith, length-append (word_bits 64 word) (packed words), length-word_bits 64 word, length-packed words)

-- words enough for all rows have whole rows
pub IsGrid-rows_in : (width height : ℕ) (words : List ℕ) → length words ≡ width * height / 64 + 1 → IsGrid width height (rows_in width height words)
IsGrid-rows_in width height words sized =
    IsGrid-rows_of width height (take (width * height) (packed words)) (length-take-le (width * height) (packed words) (omega (arith, length-packed words)))

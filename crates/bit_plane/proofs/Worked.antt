-- The definitions at values that are small enough to be worked out by hand.
use Rattle.std.proofs.Common.{◌≡◌, true, false, [], ◌∷◌, refl}
use Rattle.bit_plane.specs.BitList.{word_bits, word_of, byte_bits, byte_of, placed}
use Rattle.bit_plane.specs.Rows.{with_bit, blank, flat, rows_of}

-- hexadecimal A3 is 1010 0011, the highest bit first
byte_of_a3 : byte_of (true ∷ false ∷ true ∷ false ∷ false ∷ false ∷ true ∷ true ∷ []) ≡ 163
byte_of_a3 = refl

bits_of_a3 : byte_bits 163 ≡ true ∷ false ∷ true ∷ false ∷ false ∷ false ∷ true ∷ true ∷ []
bits_of_a3 = refl

-- a word's first bit has the value 1
word_of_six : word_of (false ∷ true ∷ true ∷ []) ≡ 6
unfolding word_of
word_of_six = refl

bits_of_six : word_bits 4 6 ≡ false ∷ true ∷ true ∷ false ∷ []
unfolding word_bits
bits_of_six = refl

-- position 4 of a plane three columns wide is column 1 of row 1
row_after_row : flat (with_bit (blank 3 2) 1 1 true) ≡ false ∷ false ∷ false ∷ false ∷ true ∷ false ∷ []
unfolding flat blank
row_after_row = refl

cut_in_rows : rows_of 3 2 (placed 4 (true ∷ []) (flat (blank 3 2))) ≡ with_bit (blank 3 2) 1 1 true
unfolding rows_of flat blank
cut_in_rows = refl

-- Rows of tiles as numbers, column c being worth 2 ^ c.
use Rattle.std.proofs.Common.{◌≡◌, ℕ, zero, suc, ◌+◌, ◌*◌, ◌/◌, ◌%◌, Bool, true, false, ◌==◌, List, [], ◌∷◌, length, get_or, map, refl, sym, ap, ◌∙◌, arith}
use Rattle.std.specs.List.{list_all}
use Rattle.std.proofs.lemmas.Bool.{eq-eqb, and_parts}
use Rattle.std.proofs.lemmas.Bool.Decides.{nat_tests}
use Rattle.std.proofs.lemmas.Nat.Bits.{bit_at_lowest, bit_at-suc, bit_at-zero}
use Rattle.bit_plane.specs.BitList.{bit_value, word_of}
use Rattle.bit_plane.proofs.Words.{bit_value-le, test-bit_value}
use Rattle.ice_image.specs.Bits.{number_bit}
use Rattle.asc_text.specs.Rows.{is_row, row_bit}
use Rattle.asc_text.specs.inside.RowNumbers.{is_bit, is_odd}

-- ---- the bits of a number

-- a bit of the number of bits
number_bit-word_of : (bits : List Bool) (k : ℕ) → number_bit (word_of bits) k ≡ get_or bits k false
unfolding word_of
number_bit-word_of [] k = ap (λ n. n == 1) (bit_at-zero k)
number_bit-word_of (bit ∷ bits) zero =
    let low : (bit_value bit + 2 * word_of bits) % 2 ≡ bit_value bit = omega (arith, bit_value-le bit) in
    ap (λ n. n == 1) (bit_at_lowest (bit_value bit + 2 * word_of bits) ∙ low) ∙ test-bit_value bit
number_bit-word_of (bit ∷ bits) (suc k) =
    let half : (bit_value bit + 2 * word_of bits) / 2 ≡ word_of bits = omega (arith, bit_value-le bit) in
    ap (λ n. n == 1) (bit_at-suc (bit_value bit + 2 * word_of bits) k) ∙ ap (λ n. number_bit n k) half ∙ number_bit-word_of bits k

-- of the characters 0 and 1, the latter is the odd one
odd-one : (byte : ℕ) → is_bit byte ≡ true → is_odd byte ≡ (byte == 49)
odd-one byte is = grind (arith, nat_tests)

odds-row_bit : (line : List ℕ) → list_all is_bit line ≡ true → (col : ℕ) → get_or (map is_odd line) col false ≡ row_bit line col
odds-row_bit [] are col = refl
odds-row_bit (byte ∷ line) are zero = odd-one byte (and_parts (is_bit byte) (list_all is_bit line) are).0
odds-row_bit (byte ∷ line) are (suc col) = odds-row_bit line (and_parts (is_bit byte) (list_all is_bit line) are).1 col

-- the number of the lowest bits of a line of characters 0 and 1 has its ones as its bits
pub row_number-bit : (line : List ℕ) (ones : ℕ) → list_all is_bit line ≡ true → ones ≡ word_of (map is_odd line) → (col : ℕ) → number_bit ones col ≡ row_bit line col
row_number-bit line ones are is col = ap (λ n. number_bit n col) is ∙ number_bit-word_of (map is_odd line) col ∙ odds-row_bit line are col

-- ---- a whole line

-- a line of another length
pub not_row-length : (width : ℕ) (line : List ℕ) → (length line == width) ≡ false → is_row width line ≡ false
unfolding is_row
not_row-length width line other = rw other refl

-- a line of that length, by its characters
pub is_row-bits : (width : ℕ) (line : List ℕ) (are : Bool) → length line ≡ width → are ≡ list_all is_bit line → is_row width line ≡ are
unfolding is_row
is_row-bits width line are wide is = rw (eq-eqb (length line) width wide) (sym is)

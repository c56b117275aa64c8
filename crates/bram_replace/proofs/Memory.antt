-- Words kept as one list of bits.
use Rattle.std.proofs.Common.{◌≡◌, ℕ, suc, ◌+◌, ◌*◌, ◌/◌, ◌%◌, ◌^◌, ◌<◌, ◌≤◌, Bool, false, List, [], ◌∷◌, length, get_or, refl, sym, ap, ap₂, ◌∙◌, subst, arith, length-append}
use Rattle.std.specs.Prelude.{Some, None, map, flat_map}
use Rattle.std.specs.List.{list_any}
use Rattle.std.proofs.lemmas.Bool.{or_parts}
use Rattle.std.proofs.lemmas.List.{take_at, drop_at}
use Rattle.std.proofs.lemmas.Nat.{mul-le, mod_below}
use Rattle.std.proofs.Math.Nat.{mul-div_cancel_left, div-mul-le_self, div-lt_iff_lt-mul, mul-div-le}
use Rattle.bit_plane.specs.Rows.{rows_of}
use Rattle.bit_plane.proofs.Grids.{length-rows_of, bit_at-rows_of}
use Rattle.bram_replace.specs.HexText.{Contents, bits_in, digits_set, is_misfit}
use Rattle.bram_replace.specs.Collected.{Holds, digits_known, memory_of}
use Rattle.bram_replace.specs.Columns.{column_bit, column_count}
use Rattle.bram_replace.specs.Packed.{packed}
use Rattle.bram_replace.proofs.HexWords.{length-bits_in, misfit-parts}
use Rattle.bram_replace.proofs.Packing.{packed-same}

-- ---- what words leave

-- words of that many digits each
length-words : (digits : ℕ) (words : List (List ℕ)) → list_any (is_misfit digits) words ≡ false → length (flat_map bits_in words) ≡ 4 * digits * length words
length-words digits [] fit = omega arith
length-words digits (word ∷ words) fit =
    let parts = or_parts (is_misfit digits word) (list_any (is_misfit digits) words) fit in
    let size : length (bits_in word) ≡ 4 * digits = length-bits_in word ∙ ap (λ n. 4 * n) (misfit-parts digits word parts.0).0 in
    let more = length-words digits words parts.1 in
    let all = length-append (bits_in word) (flat_map bits_in words) in
    let product : 4 * digits * suc (length words) ≡ 4 * digits + 4 * digits * length words = omega arith in
    omega (arith, all, size, more, product)

rows-words : (digits : ℕ) (words : List (List ℕ)) → list_any (is_misfit digits) words ≡ false → rows_of (4 * digits) (length words) (flat_map bits_in words) ≡ map bits_in words
unfolding rows_of
rows-words digits [] fit = refl
rows-words digits (word ∷ words) fit =
    let parts = or_parts (is_misfit digits word) (list_any (is_misfit digits) words) fit in
    let size : length (bits_in word) ≡ 4 * digits = length-bits_in word ∙ ap (λ n. 4 * n) (misfit-parts digits word parts.0).0 in
    ap₂ (λ row rows. row ∷ rows) (take_at (bits_in word) (flat_map bits_in words) (4 * digits) size)
    (ap (rows_of (4 * digits) (length words)) (drop_at (bits_in word) (flat_map bits_in words) (4 * digits) size) ∙ rows-words digits words parts.1)

known-set : (words : List (List ℕ)) (count : ℕ) → Some count ≡ digits_known words → digits_set words ≡ count
known-set [] count e = absurd cc
known-set (word ∷ words) count e = cc

-- how many words the bits are
pub words-count : (words : List (List ℕ)) (count : ℕ) (bits : List Bool) → Holds words (Some count) bits → length bits / (4 * count) ≡ length words
words-count words count bits holds =
    let set = known-set words count holds.digits_are in
    let fit : list_any (is_misfit count) words ≡ false = subst (λ n. list_any (is_misfit n) words ≡ false) set holds.fit in
    let some : 0 < 4 * count = omega (arith, holds.range.0) in
    ap (λ n. n / (4 * count)) (ap length holds.bits_are ∙ length-words count words fit) ∙ mul-div_cancel_left (length words) some

-- what is seen of the bits is what the words say
pub memory-words : (words : List (List ℕ)) (count : ℕ) (bits : List Bool) → Holds words (Some count) bits
    → memory_of count bits ≡ record { digits = digits_set words; words = map bits_in words }
memory-words words count bits holds =
    let set = known-set words count holds.digits_are in
    let fit : list_any (is_misfit count) words ≡ false = subst (λ n. list_any (is_misfit n) words ≡ false) set holds.fit in
    let rows : rows_of (4 * count) (length bits / (4 * count)) bits ≡ map bits_in words =
    ap₂ (λ height xs. rows_of (4 * count) height xs) (words-count words count bits holds) holds.bits_are ∙ rows-words count words fit in
    ap₂ (λ n ws. let c : Contents = record { digits = n; words = ws } in c) (sym set) rows

-- no words are no blocks
pub no_words : (words : List (List ℕ)) → None ≡ digits_known words → length words ≡ 0
no_words [] e = refl
no_words (word ∷ words) e = absurd cc

-- ---- places of bits

-- how many words are kept
pub word_count-is : (digits : ℕ) (bits : List Bool) → length (memory_of digits bits).words ≡ length bits / (4 * digits)
word_count-is digits bits = length-rows_of (4 * digits) (length bits / (4 * digits)) bits

-- the word of a column's bit is there
pub word-within : (digits : ℕ) (bits : List Bool) (column word : ℕ) → 0 < digits → column < column_count (memory_of digits bits) → word < 256
    → 256 * (column / (4 * digits)) + word < length bits / (4 * digits)
word-within digits bits column word some within few =
    let width = 4 * digits in
    let count = length bits / width in
    let wide : 0 < width = omega arith in
    let inside : column < count / 256 * width = rw (← word_count-is digits bits) within in
    let block : column / width < count / 256 = (div-lt_iff_lt-mul {x = column} {y = count / 256} wide).1 inside in
    omega (arith, mul-div-le count 256)

-- and its bit too
pub bit-within : (digits : ℕ) (bits : List Bool) (column word : ℕ) → 0 < digits → column < column_count (memory_of digits bits) → word < 256
    → (256 * (column / (4 * digits)) + word) * (4 * digits) + column % (4 * digits) < length bits
bit-within digits bits column word some within few =
    let width = 4 * digits in
    let count = length bits / width in
    let row = 256 * (column / width) + word in
    let wide : 0 < width = omega arith in
    let low : row + 1 ≤ count = omega (arith, word-within digits bits column word some within few) in
    let high : (row + 1) * width ≤ count * width = mul-le (row + 1) width count width low (omega arith) in
    let product : (row + 1) * width ≡ row * width + width = omega arith in
    omega (arith, high, product, mod_below column width wide, div-mul-le_self (length bits) width)

-- all in the range of numbers
pub word-fits : (digits : ℕ) (bits : List Bool) (column word : ℕ) → 0 < digits → column < column_count (memory_of digits bits) → word < 256
    → 256 * (column / (4 * digits)) + word < length bits
word-fits digits bits column word some within few =
    let count = length bits / (4 * digits) in
    let wide : 1 ≤ 4 * digits = omega arith in
    let more : count * 1 ≤ count * (4 * digits) = mul-le count 1 count (4 * digits) (omega arith) wide in
    omega (arith, word-within digits bits column word some within few, more, div-mul-le_self (length bits) (4 * digits))

-- a bit of a column is this one
pub column_bit-is : (digits : ℕ) (bits : List Bool) (column word : ℕ) → 0 < digits → column < column_count (memory_of digits bits) → word < 256
    → get_or bits ((256 * (column / (4 * digits)) + word) * (4 * digits) + column % (4 * digits)) false ≡ column_bit (memory_of digits bits) column word
column_bit-is digits bits column word some within few =
    let width = 4 * digits in
    sym (bit_at-rows_of width (length bits / width) bits (column % width) (256 * (column / width) + word) (mod_below column width (omega arith)) (word-within digits bits column word some within few))

-- a whole column
pub column-is : (digits : ℕ) (bits : List Bool) (column : ℕ) → 0 < digits → column < column_count (memory_of digits bits)
    → packed (λ place. get_or bits (256 * (column / (4 * digits)) * (4 * digits) + column % (4 * digits) + place * (4 * digits)) false) ≡ packed (column_bit (memory_of digits bits) column)
column-is digits bits column some within =
    packed-same (λ place. get_or bits (256 * (column / (4 * digits)) * (4 * digits) + column % (4 * digits) + place * (4 * digits)) false) (column_bit (memory_of digits bits) column)
    (λ word few.
    let here : 256 * (column / (4 * digits)) * (4 * digits) + column % (4 * digits) + word * (4 * digits) ≡ (256 * (column / (4 * digits)) + word) * (4 * digits) + column % (4 * digits) = omega arith in
    ap (λ n. get_or bits n false) here ∙ column_bit-is digits bits column word some within few)

-- the last bit of a column is there
pub column-within : (digits : ℕ) (bits : List Bool) (column : ℕ) → 0 < digits → column < column_count (memory_of digits bits)
    → 256 * (column / (4 * digits)) * (4 * digits) + column % (4 * digits) + 255 * (4 * digits) < length bits
column-within digits bits column some within =
    let last = bit-within digits bits column 255 some within (omega arith) in
    let here : 256 * (column / (4 * digits)) * (4 * digits) + column % (4 * digits) + 255 * (4 * digits) ≡ (256 * (column / (4 * digits)) + 255) * (4 * digits) + column % (4 * digits) = omega arith in
    omega (arith, last, here)

-- the columns are few
pub columns-few : (digits : ℕ) (bits : List Bool) → length bits ≤ 2 ^ 26 → length bits / (4 * digits) / 256 * (4 * digits) ≤ 2 ^ 26
columns-few digits bits few =
    let count = length bits / (4 * digits) in
    let blocks : count / 256 ≤ count = omega arith in
    let less : count / 256 * (4 * digits) ≤ count * (4 * digits) = mul-le (count / 256) (4 * digits) count (4 * digits) blocks (omega arith) in
    omega (arith, less, div-mul-le_self (length bits) (4 * digits))

-- The rows of a tile and the lines of a RAM are read as they were written.
use Rattle.std.proofs.Common.{◌≡◌, ℕ, zero, suc, ◌+◌, ◌-◌, ◌*◌, ◌/◌, ◌%◌, ◌^◌, ◌<◌, ◌≤◌, ◌==◌, Bool, true, false, ◌&&◌, ◌||◌, List, [], ◌∷◌, length, get_or, refl, sym, ap, ◌∙◌, arith, inl, inr, Some}
use Rattle.std.proofs.lemmas.Bool.{eq-eqb, and_from, cases_eq, cases_lt}
use Rattle.std.proofs.lemmas.Bool.Decides.{nat_tests}
use Rattle.std.proofs.lemmas.List.{length-append, length-map, get_or_past, get_or_append_left, get_or-append_right}
use Rattle.std.proofs.lemmas.List.Elements.{All-cons, All-nil, All-weaker}
use Rattle.std.specs.List.{list_all}
use Rattle.std.specs.Prelude.{All, slice_index}
use Rattle.hex.specs.Hex.{IsBytes, encode_with, encode_lower, lower_digits, is_hex_digit, hex_digit_value}
use Rattle.hex.proofs.HexLemmas.{length-encode_with, IsDigits-lower_digits, decode_of-encode_lower}
use Rattle.text_lines.specs.Lines.{trimmed}
use Rattle.index_search.specs.Places.{gathered_below}
use Rattle.text_lines.specs.Written.{IsPlain}
use Rattle.bit_plane.specs.BitList.{word_of}
use Rattle.bit_plane.specs.Rows.{row_from}
use Rattle.bit_plane.proofs.Words.{get_or-word_bits}
use Rattle.bit_plane.proofs.Made.{get_or-row_from}
use Rattle.ice_image.proofs.Made.{row_word-bits, row_word-below}
use Rattle.asc_text.specs.Rows.{is_row, row_bit, is_memory_line, decoded, ram_line_bytes, memory_word}
use Rattle.asc_text.specs.Canonical.{bit_character, row_line, two_bytes}
use Rattle.asc_text.proofs.Spelled.{trimmed-word}

-- ---- rows of tiles

-- the characters of a row are above the space
row_line-high : (bits : List Bool) → All (λ byte. 33 ≤ byte) (row_line bits)
row_line-high [] = All-nil (λ byte. 33 ≤ byte)
row_line-high (true ∷ bits) = All-cons (λ byte. 33 ≤ byte) 49 (row_line bits) (omega arith) (row_line-high bits)
row_line-high (false ∷ bits) = All-cons (λ byte. 33 ≤ byte) 48 (row_line bits) (omega arith) (row_line-high bits)

-- nothing is trimmed from a row
pub trimmed-row_line : (bits : List Bool) → trimmed (row_line bits) ≡ row_line bits
trimmed-row_line bits = trimmed-word (row_line bits) (row_line-high bits)

-- a row has no byte below the space
pub plain-row_line : (bits : List Bool) → IsPlain (row_line bits)
plain-row_line bits = All-weaker (λ byte. 33 ≤ byte) (λ byte. 32 ≤ byte) (λ byte high. omega arith) (row_line bits) (row_line-high bits)

-- they are 0 and 1
row_line-characters : (bits : List Bool) → list_all (λ byte. (byte == 48) || (byte == 49)) (row_line bits) ≡ true
row_line-characters [] = refl
row_line-characters (true ∷ bits) = row_line-characters bits
row_line-characters (false ∷ bits) = row_line-characters bits

-- a row with a character for each of `width` bits is a row
pub is_row-row_line : (bits : List Bool) (width : ℕ) → length bits ≡ width → is_row width (row_line bits) ≡ true
unfolding is_row
is_row-row_line bits width wide =
    and_from (length (row_line bits) == width) (list_all (λ byte. (byte == 48) || (byte == 49)) (row_line bits)) (eq-eqb (length (row_line bits)) width (length-map bits bit_character ∙ wide)) (row_line-characters bits)

-- a column has its bit
pub row_bit-row_line : (bits : List Bool) (col : ℕ) → row_bit (row_line bits) col ≡ get_or bits col false
row_bit-row_line [] col = refl
row_bit-row_line (true ∷ bits) zero = refl
row_bit-row_line (false ∷ bits) zero = refl
row_bit-row_line (bit ∷ bits) (suc col) = row_bit-row_line bits col

-- ---- lines of RAMs

-- a byte that is read as a digit is one
hex_value-digit : (byte d : ℕ) → hex_digit_value byte ≡ Some d → (33 ≤ byte) × (is_hex_digit byte ≡ true)
hex_value-digit byte d is = (grind (arith, nat_tests), rw is refl)

-- the digits of bytes are above the space
encoded-high : (bytes : List ℕ) → IsBytes bytes → All (λ byte. 33 ≤ byte) (encode_lower bytes)
unfolding encode_with
encoded-high [] small = All-nil (λ byte. 33 ≤ byte)
encoded-high (byte ∷ bytes) small =
    let fits : byte < 256 = small 0 in
    let first = hex_value-digit (slice_index lower_digits (byte / 16)) (byte / 16) (IsDigits-lower_digits (byte / 16) (omega arith)) in
    let second = hex_value-digit (slice_index lower_digits (byte % 16)) (byte % 16) (IsDigits-lower_digits (byte % 16) (omega arith)) in
    All-cons (λ byte. 33 ≤ byte) (slice_index lower_digits (byte / 16)) (slice_index lower_digits (byte % 16) ∷ encode_lower bytes) first.0
    (All-cons (λ byte. 33 ≤ byte) (slice_index lower_digits (byte % 16)) (encode_lower bytes) second.0 (encoded-high bytes (λ k. small (suc k))))

-- they are digits
encoded-digits : (bytes : List ℕ) → IsBytes bytes → list_all is_hex_digit (encode_lower bytes) ≡ true
unfolding encode_with
encoded-digits [] small = refl
encoded-digits (byte ∷ bytes) small =
    let fits : byte < 256 = small 0 in
    let first = hex_value-digit (slice_index lower_digits (byte / 16)) (byte / 16) (IsDigits-lower_digits (byte / 16) (omega arith)) in
    let second = hex_value-digit (slice_index lower_digits (byte % 16)) (byte % 16) (IsDigits-lower_digits (byte % 16) (omega arith)) in
    and_from (is_hex_digit (slice_index lower_digits (byte / 16))) (is_hex_digit (slice_index lower_digits (byte % 16)) && list_all is_hex_digit (encode_lower bytes)) first.1
    (and_from (is_hex_digit (slice_index lower_digits (byte % 16))) (list_all is_hex_digit (encode_lower bytes)) second.1 (encoded-digits bytes (λ k. small (suc k))))

-- nothing is trimmed from digits
pub trimmed-encoded : (bytes : List ℕ) → IsBytes bytes → trimmed (encode_lower bytes) ≡ encode_lower bytes
trimmed-encoded bytes small = trimmed-word (encode_lower bytes) (encoded-high bytes small)

-- digits have no byte below the space
pub plain-encoded : (bytes : List ℕ) → IsBytes bytes → IsPlain (encode_lower bytes)
plain-encoded bytes small = All-weaker (λ byte. 33 ≤ byte) (λ byte. 32 ≤ byte) (λ byte high. omega arith) (encode_lower bytes) (encoded-high bytes small)

-- 32 bytes are a line
pub is_memory_line-encoded : (bytes : List ℕ) → IsBytes bytes → length bytes ≡ 32 → is_memory_line (encode_lower bytes) ≡ true
unfolding is_memory_line
is_memory_line-encoded bytes small count =
    and_from (length (encode_lower bytes) == 64) (list_all is_hex_digit (encode_lower bytes)) (eq-eqb (length (encode_lower bytes)) 64 (omega (arith, length-encode_with lower_digits bytes))) (encoded-digits bytes small)

-- the bytes that are read are those that were written
pub ram_line_bytes-encoded : (bytes : List ℕ) → IsBytes bytes → ram_line_bytes (encode_lower bytes) ≡ bytes
unfolding ram_line_bytes
ram_line_bytes-encoded bytes small = ap decoded (decode_of-encode_lower bytes small)

-- ---- words as bytes

-- the bytes of words
abbrev pub words_bytes : ℕ → (ℕ → ℕ) → List ℕ
words_bytes count word = gathered_below count (λ place. two_bytes (word place))

-- two a word
pub length-words_bytes : (count : ℕ) (word : ℕ → ℕ) → length (words_bytes count word) ≡ 2 * count
unfolding gathered_below
length-words_bytes zero word = refl
length-words_bytes (suc count) word = omega (arith, length-append (words_bytes count word) (two_bytes (word count)), length-words_bytes count word)

-- the bytes of a word
pub get_or-words_bytes : (count : ℕ) (word : ℕ → ℕ) (place : ℕ) → place < count
    → (get_or (words_bytes count word) (2 * place) 0 ≡ word place / 256) × (get_or (words_bytes count word) (2 * place + 1) 0 ≡ word place % 256)
unfolding gathered_below
get_or-words_bytes zero word place within = absurd (omega arith)
get_or-words_bytes (suc count) word place within =
    let long = length-words_bytes count word in
    elim (cases_eq place count) [
      | inl last ↦
          let high : 2 * place - 2 * count ≡ 0 = omega arith in
          let low : 2 * place + 1 - 2 * count ≡ 1 = omega arith in (
            get_or-append_right (words_bytes count word) (two_bytes (word count)) (2 * count) (2 * place) 0 long (omega arith)
                ∙ ap (λ k. get_or (two_bytes (word count)) k 0) high ∙ ap (λ k. word k / 256) (sym last),
            get_or-append_right (words_bytes count word) (two_bytes (word count)) (2 * count) (2 * place + 1) 0 long (omega arith)
                ∙ ap (λ k. get_or (two_bytes (word count)) k 0) low ∙ ap (λ k. word k % 256) (sym last),
          )
      | inr before ↦
          let earlier = get_or-words_bytes count word place (omega arith) in (
            get_or_append_left (words_bytes count word) (two_bytes (word count)) 0 (2 * place) (omega arith) ∙ earlier.0,
            get_or_append_left (words_bytes count word) (two_bytes (word count)) 0 (2 * place + 1) (omega arith) ∙ earlier.1,
          )
    ]

-- they are bytes
pub IsBytes-words_bytes : (count : ℕ) (word : ℕ → ℕ) → ((place : ℕ) → place < count → word place < 65536) → IsBytes (words_bytes count word)
IsBytes-words_bytes count word small i =
    let long = length-words_bytes count word in
    elim (cases_lt i (2 * count)) [
      | inl within ↦
          let place = i / 2 in
          let bytes = get_or-words_bytes count word place (omega arith) in
          let fits : word place < 65536 = small place (omega arith) in
          elim (cases_eq (i % 2) 0) [
            | inl even ↦
                let at : 2 * place ≡ i = omega arith in
                let is : get_or (words_bytes count word) i 0 ≡ word place / 256 = ap (λ k. get_or (words_bytes count word) k 0) (sym at) ∙ bytes.0 in
                omega (arith, is, fits)
            | inr odd ↦
                let at : 2 * place + 1 ≡ i = omega arith in
                let is : get_or (words_bytes count word) i 0 ≡ word place % 256 = ap (λ k. get_or (words_bytes count word) k 0) (sym at) ∙ bytes.1 in
                omega (arith, is)
          ]
      | inr past ↦
          let none : get_or (words_bytes count word) i 0 ≡ 0 = get_or_past (words_bytes count word) i 0 (omega (arith, long)) in
          omega (arith, none)
    ]

-- a bit of a word whose bits are given
pub word_bit-row_from : (bits : ℕ → Bool) (bit : ℕ) → bit < 16 → (word_of (row_from 16 bits) / 2 ^ bit % 2 == 1) ≡ bits bit
word_bit-row_from bits bit within =
    sym (get_or-word_bits 16 (word_of (row_from 16 bits)) bit within)
    ∙ ap (λ row. get_or row bit false) (row_word-bits 16 bits)
    ∙ get_or-row_from 16 bits bit within

-- it has at most sixteen bits
pub word-row_from-lt : (bits : ℕ → Bool) → word_of (row_from 16 bits) < 65536
word-row_from-lt bits = row_word-below 16 bits (word_of (row_from 16 bits)) refl

-- a word that is read in the line of sixteen words
pub memory_word-encoded : (word : ℕ → ℕ) → ((place : ℕ) → place < 16 → word place < 65536) → (index : ℕ) → index < 16
    → memory_word (encode_lower (words_bytes 16 word)) index ≡ word (15 - index)
memory_word-encoded word small index within =
    let bytes = ram_line_bytes-encoded (words_bytes 16 word) (IsBytes-words_bytes 16 word small) in
    let place = 15 - index in
    let read = get_or-words_bytes 16 word place (omega arith) in
    let high : 30 - 2 * index ≡ 2 * place = omega arith in
    let low : 31 - 2 * index ≡ 2 * place + 1 = omega arith in
    (λ i. 256 * get_or (bytes i) (high i) 0 + get_or (bytes i) (low i) 0)
    ∙ (λ i. 256 * read.0 i + read.1 i) ∙ omega arith

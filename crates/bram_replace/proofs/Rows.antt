-- The lines and the bits of a RAM.
use Rattle.std.proofs.Common.{◌≡◌, ◌≢◌, ℕ, ◌+◌, ◌-◌, ◌*◌, ◌/◌, ◌%◌, ◌<◌, ◌≤◌, Bool, true, false, not, ◌&&◌, ◌==◌, List, [], ◌∷◌, ◌++◌, length, get_or, set, drop, refl, sym, ap, ap₂, ◌∙◌, inl, inr, arith, append_assoc}
use Rattle.std.specs.Prelude.{if◌then◌else◌}
use mathlib.Core.Bool.{beq}
use Rattle.std.proofs.lemmas.Bool.{cases_eq, false≢true, eq-eqb, ne_eqb}
use Rattle.std.proofs.lemmas.List.{get_or-set_same, get_or-set_other}
use Rattle.index_search.specs.Places.{any_below, gathered_below}
use Rattle.index_search.proofs.Places.{any_below-same, any_below-none, any_below-at, gathered_below-same}
use Rattle.hex.specs.Hex.{encode_lower}
use Rattle.bit_plane.specs.BitList.{word_of}
use Rattle.asc_text.specs.Canonical.{two_bytes}
use Rattle.bram_replace.specs.HexText.{Contents}
use Rattle.bram_replace.specs.Columns.{column_at, is_same, is_same_bit, match_of}
use Rattle.bram_replace.specs.ReadModes.{RamBits, by_columns, column_in, place_in}
use Rattle.bram_replace.specs.Replaced.{ram_column, bit_from, bits_after, column_found, columns_found, changes, word_with, digits_with, memory_line_with}
use Rattle.bram_replace.specs.Rams.{AreAlike, columns_after, listed}
use Rattle.bram_replace.proofs.Orders.{by_columns-back, by_columns-same, column-within}
use Rattle.bram_replace.proofs.Made.{made-same, column_from-same}
use Rattle.bram_replace.proofs.Same.{is_same_bit-refl}

-- ---- the same bits make the same

column-same : (bits others : RamBits) (bit : ℕ) → AreAlike 256 bits others → bit < 16 → ram_column bits bit ≡ ram_column others bit
column-same bits others bit alike within = column_from-same (λ word. bits word bit) (λ word. others word bit) (λ word few. alike word bit few within)

pub columns-same : (from to : Contents) (bits others : RamBits) → AreAlike 256 bits others → AreAlike 256 (columns_after from to bits) (columns_after from to others)
columns-same from to bits others alike word bit few within =
    ap₂ (λ column old. bit_from to (match_of from column) word old) (column-same bits others bit alike within) (alike word bit few within)

pub after-same : (from to : Contents) (mode : ℕ) (bits others : RamBits) → mode < 4 → AreAlike 256 bits others → AreAlike 256 (bits_after from to mode bits) (bits_after from to mode others)
after-same from to mode bits others small alike word bit few within =
    ap₂ (λ column old. bit_from to (match_of from column) (place_in mode word bit) old)
    (column-same (by_columns mode bits) (by_columns mode others) (column_in mode word bit) (by_columns-same mode bits others small alike) (column-within mode word bit small few within))
    (alike word bit few within)

-- a bit is that of its column at its place
after-columns : (from to : Contents) (mode : ℕ) (old : RamBits) (word bit : ℕ) → mode < 4 → word < 256 → bit < 16
    → bits_after from to mode old word bit ≡ columns_after from to (by_columns mode old) (place_in mode word bit) (column_in mode word bit)
after-columns from to mode old word bit small few low =
    ap (bit_from to (match_of from (ram_column (by_columns mode old) (column_in mode word bit))) (place_in mode word bit)) (sym (by_columns-back mode old word bit small few low))

-- columns that were replaced and put back
pub put-back : (from to : Contents) (mode : ℕ) (old own new result : RamBits) → mode < 4 → AreAlike 256 own (by_columns mode old) → AreAlike 256 new (columns_after from to own)
    → AreAlike 256 result (λ word bit. new (place_in mode word bit) (column_in mode word bit)) → AreAlike 256 result (bits_after from to mode old)
put-back from to mode old own new result small before after back word bit few low =
    let column = column-within mode word bit small few low in
    back word bit few low ∙ after (place_in mode word bit) (column_in mode word bit) (omega arith) column
    ∙ columns-same from to own (by_columns mode old) before (place_in mode word bit) (column_in mode word bit) (omega arith) column ∙ sym (after-columns from to mode old word bit small few low)

-- in mode 0 a column is one bit of each word
pub by_columns-zero : (bits : RamBits) → AreAlike 256 bits (by_columns 0 bits)
by_columns-zero bits word bit few low =
    let word_is : word ≡ (256 * (bit / 16) + word) / 1 = omega arith in
    let bit_is : bit ≡ 1 * (bit % 16) + 0 = omega arith in
    ap₂ bits word_is bit_is

pub put-straight : (from to : Contents) (old new : RamBits) → AreAlike 256 new (columns_after from to old) → AreAlike 256 new (bits_after from to 0 old)
put-straight from to old new after =
    put-back from to 0 old old new new (omega arith) (by_columns-zero old) after
    (λ word bit few low.
    let word_is : word ≡ place_in 0 word bit = omega arith in
    let bit_is : bit ≡ column_in 0 word bit = omega arith in
    ap₂ new word_is bit_is)

pub found-same : (from : Contents) (bits others : RamBits) (column : ℕ) → AreAlike 256 bits others → columns_found from bits column ≡ columns_found from others column
found-same from bits others column alike =
    gathered_below-same 16 (column_found from bits column) (column_found from others column)
    (λ bit within. ap (λ other. if is_same (column_at from column) other then bit ∷ [] else []) (column-same bits others bit alike within))

changes-same : (before old after new : RamBits) (row : ℕ) → AreAlike 256 before old → AreAlike 256 after new → row < 16 → changes before after row ≡ changes old new row
changes-same before old after new row olds news within =
    any_below-same 16 (λ index. any_below 16 (λ bit. not (is_same_bit (before (16 * row + index) bit) (after (16 * row + index) bit)))) (λ index. any_below 16 (λ bit. not (is_same_bit (old (16 * row + index) bit) (new (16 * row + index) bit))))
    (λ index few. any_below-same 16 (λ bit. not (is_same_bit (before (16 * row + index) bit) (after (16 * row + index) bit))) (λ bit. not (is_same_bit (old (16 * row + index) bit) (new (16 * row + index) bit)))
    (λ bit low. ap₂ (λ a b. not (is_same_bit a b)) (olds (16 * row + index) bit (omega arith) low) (news (16 * row + index) bit (omega arith) low)))

word-same : (bits others : RamBits) (word : ℕ) → AreAlike 256 bits others → word < 256 → word_with bits word ≡ word_with others word
word-same bits others word alike few = ap word_of (made-same (bits word) (others word) 16 (λ bit within. alike word bit few within))

digits-same : (bits others : RamBits) (row : ℕ) → AreAlike 256 bits others → row < 16 → digits_with bits row ≡ digits_with others row
digits-same bits others row alike within =
    ap encode_lower (gathered_below-same 16 (λ place. two_bytes (word_with bits (16 * row + (15 - place)))) (λ place. two_bytes (word_with others (16 * row + (15 - place))))
    (λ place few. ap two_bytes (word-same bits others (16 * row + (15 - place)) alike (omega arith))))

line-same : (before old after new : RamBits) (row : ℕ) (whole : List ℕ) → AreAlike 256 before old → AreAlike 256 after new → row < 16
    → memory_line_with before after row whole ≡ memory_line_with old new row whole
line-same before old after new row whole olds news within =
    ap₂ (λ changed digits. if changed then digits ++ drop 64 whole else whole) (changes-same before old after new row olds news within) (digits-same after new row news within)

pub lines-same : (before old after new : RamBits) (whole : ℕ → List ℕ) → AreAlike 256 before old → AreAlike 256 after new
    → gathered_below 16 (λ row. memory_line_with before after row (whole row)) ≡ gathered_below 16 (λ row. memory_line_with old new row (whole row))
lines-same before old after new whole olds news =
    gathered_below-same 16 (λ row. memory_line_with before after row (whole row)) (λ row. memory_line_with old new row (whole row))
    (λ row within. line-same before old after new row (whole row) olds news within)

-- ---- whether a line changes

-- each bit of a line of a RAM is one of its list
pub changes-yes : (old new : List Bool) (row place : ℕ) → 256 * row ≤ place → place < 256 * (row + 1) → is_same_bit (get_or old place false) (get_or new place false) ≡ false
    → changes (listed old) (listed new) row ≡ true
changes-yes old new row place from to apart =
    let index = (place - 256 * row) / 16 in
    let bit = (place - 256 * row) % 16 in
    let here : 16 * (16 * row + index) + bit ≡ place = omega arith in
    let differs : not (is_same_bit (listed old (16 * row + index) bit) (listed new (16 * row + index) bit)) ≡ true = rw (here, apart) refl in
    any_below-at 16 index (λ index. any_below 16 (λ bit. not (is_same_bit (listed old (16 * row + index) bit) (listed new (16 * row + index) bit)))) (omega arith)
    (any_below-at 16 bit (λ bit. not (is_same_bit (listed old (16 * row + index) bit) (listed new (16 * row + index) bit))) (omega arith) differs)

pub changes-no : (old new : List Bool) (row : ℕ) → ((place : ℕ) → 256 * row ≤ place → place < 256 * (row + 1) → get_or old place false ≡ get_or new place false)
    → changes (listed old) (listed new) row ≡ false
changes-no old new row same =
    any_below-none 16 (λ index. any_below 16 (λ bit. not (is_same_bit (listed old (16 * row + index) bit) (listed new (16 * row + index) bit))))
    (λ index few. any_below-none 16 (λ bit. not (is_same_bit (listed old (16 * row + index) bit) (listed new (16 * row + index) bit)))
    (λ bit low.
    let equal = same (16 * (16 * row + index) + bit) (omega arith) (omega arith) in
    ap not (ap (λ b. is_same_bit b (listed new (16 * row + index) bit)) equal ∙ is_same_bit-refl (listed new (16 * row + index) bit))))

-- a line that changes, in two parts
pub line-changed : (before after : RamBits) (row : ℕ) (whole old middle new : List ℕ) → changes before after row ≡ true → middle ≡ old ++ digits_with after row → new ≡ middle ++ drop 64 whole
    → new ≡ old ++ memory_line_with before after row whole
line-changed before after row whole old middle new changed first second =
    second ∙ ap (λ text. text ++ drop 64 whole) first ∙ append_assoc old (digits_with after row) (drop 64 whole)
    ∙ ap (λ changed. old ++ (if changed then digits_with after row ++ drop 64 whole else whole)) (sym changed)

-- two bits that aren't equal
pub differ : (bit other : Bool) → not (beq bit other) ≡ true → is_same_bit bit other ≡ false
differ true true apart = absurd (false≢true apart)
differ true false apart = refl
differ false true apart = refl
differ false false apart = absurd (false≢true apart)

-- ---- bits of a list that are set

-- a bit that is set, and any other one
pub listed-set : (bits : List Bool) (word bit at place : ℕ) (value : Bool) → 16 * at + place < length bits → bit < 16 → place < 16
    → listed (set bits (16 * at + place) value) word bit ≡ (if (word == at) && (bit == place) then value else listed bits word bit)
listed-set bits word bit at place value within low few =
    elim (cases_eq word at) [
      | inl same ↦ elim (cases_eq bit place) [
        | inl equal ↦
            let e : 16 * word + bit ≡ 16 * at + place = omega arith in
            rw (eq-eqb word at same, eq-eqb bit place equal, e) (get_or-set_same bits (16 * at + place) value false within)
        | inr apart ↦
            let other : 16 * word + bit ≢ 16 * at + place = λ e. apart (omega arith) in
            rw (eq-eqb word at same, ne_eqb bit place apart) (get_or-set_other bits (16 * at + place) (16 * word + bit) value false other)
      ]
      | inr apart ↦
          let other : 16 * word + bit ≢ 16 * at + place = λ e. apart (omega arith) in
          rw (ne_eqb word at apart) (get_or-set_other bits (16 * at + place) (16 * word + bit) value false other)
    ]

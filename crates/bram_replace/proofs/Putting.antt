-- The bits of a RAM, written one after the other.
use Rattle.std.proofs.Common.{◌≡◌, ◌≢◌, ℕ, suc, ◌+◌, ◌-◌, ◌*◌, ◌/◌, ◌%◌, ◌^◌, ◌<◌, ◌≤◌, Bool, true, false, ◌&&◌, ◌==◌, List, [], ◌∷◌, length, get_or, set, drop, refl, sym, ap, ap₂, ◌∙◌, subst, inl, inr, arith, add-one, length-append}
use Rattle.std.specs.Prelude.{Option, Some, None, nat_lt, if◌then◌else◌}
use Rattle.std.proofs.Math.Nat.{div-div-eq-div-mul, two-pow-succ}
use Rattle.std.proofs.lemmas.Bool.{cases_lt, cases_eq, false≢true, eq-eqb, ne_eqb, lt-ltb, le-ltb, and_parts, eqb-true}
use Rattle.std.proofs.lemmas.List.{get_or_past, get_or-set_same, get_or-set_other}
use Rattle.shared_lemmas.proofs.Cuts.{drop_cons, drop_none}
use Rattle.index_search.specs.Places.{gathered_below}
use Rattle.index_search.proofs.Places.{gathered_below-more}
use Rattle.text_lines.specs.Lines.{lines_of, whole_lines_of, line_at, trimmed, before_rest, is_blank}
use Rattle.asc_text.specs.Rows.{is_memory_line, memory_bit, ram_line_bytes, memory_word}
use Rattle.bram_replace.specs.HexText.{Contents}
use Rattle.bram_replace.specs.Columns.{column_at, column_bit, column_count, column_from, is_same, match_of, same_fault}
use Rattle.bram_replace.specs.Packed.{word_from}
use Rattle.bram_replace.specs.ReadModes.{RamBits}
use Rattle.bram_replace.specs.Replaced.{ram_bits, ram_column, bit_from, column_found, word_with}
use Rattle.asc_text.specs.Rams.{BeginsWithRam}
use Rattle.bram_replace.specs.Rams.{AreAlike, columns_after, listed}
use Rattle.bram_replace.proofs.HexLines.{content-within}
use Rattle.bram_replace.proofs.Made.{column_from-same}
use Rattle.bram_replace.proofs.Packing.{word_from-same}
use Rattle.bram_replace.proofs.Rows.{listed-set}
use Rattle.bram_replace.proofs.Same.{match-only, match-none, match-within}
use Rattle.asc_text.proofs.RamLines.{no_empty}

-- ---- one word

-- half of the rest
pub rest-more : (value rest bit : ℕ) → rest ≡ value / 2 ^ bit → rest / 2 ≡ value / 2 ^ (bit + 1)
rest-more value rest bit is =
    let twice : 2 ^ bit * 2 ≡ 2 ^ (bit + 1) = rw add-one (omega (arith, two-pow-succ bit)) in
    ap (λ n. n / 2) is ∙ div-div-eq-div-mul value (2 ^ bit) 2 ∙ ap (λ n. value / n) twice

pub word-there : (bits : List Bool) (word bit value rest : ℕ) → length bits ≡ 4096 → word < 256 → bit < 16 → rest ≡ value / 2 ^ bit
    → ((k : ℕ) → k < bit → listed bits word k ≡ (value / 2 ^ k % 2 == 1)) → (k : ℕ) → k < bit + 1 → listed (set bits (16 * word + bit) (rest % 2 == 1)) word k ≡ (value / 2 ^ k % 2 == 1)
word-there bits word bit value rest size few low is there k below =
    listed-set bits word k word bit (rest % 2 == 1) (omega arith) (omega arith) low
    ∙ rw (eq-eqb word word refl) (elim (cases_eq k bit) [
      | inl same ↦ rw (eq-eqb k bit same) (ap (λ n. n % 2 == 1) is ∙ ap (λ n. value / 2 ^ n % 2 == 1) (sym same))
      | inr apart ↦ rw (ne_eqb k bit apart) (there k (omega arith))
    ])

pub word-before : (bits : List Bool) (word bit : ℕ) (value : Bool) → length bits ≡ 4096 → word < 256 → bit < 16 → AreAlike word (listed (set bits (16 * word + bit) value)) (listed bits)
word-before bits word bit value size few low other place below within =
    listed-set bits other place word bit value (omega arith) within low ∙ rw (ne_eqb other word (λ e. omega arith)) refl

-- ---- one line

-- the two bytes of a word
pub word-bytes : (bytes line : List ℕ) (index value : ℕ) → bytes ≡ ram_line_bytes line → value ≡ 256 * get_or bytes (30 - 2 * index) 0 + get_or bytes (31 - 2 * index) 0 → value ≡ memory_word line index
word-bytes bytes line index value is two = two ∙ ap (λ bs. 256 * get_or bs (30 - 2 * index) 0 + get_or bs (31 - 2 * index) 0) is

pub line-there : (old new : List Bool) (line : List ℕ) (row index value : ℕ) → ((k bit : ℕ) → k < index → bit < 16 → listed old (16 * row + k) bit ≡ memory_bit line k bit)
    → AreAlike (16 * row + index) (listed new) (listed old) → ((bit : ℕ) → bit < 16 → listed new (16 * row + index) bit ≡ (value / 2 ^ bit % 2 == 1)) → value ≡ memory_word line index
    → (k bit : ℕ) → k < index + 1 → bit < 16 → listed new (16 * row + k) bit ≡ memory_bit line k bit
line-there old new line row index value there before here is k bit below low =
    elim (cases_lt k index) [
      | inl less ↦ before (16 * row + k) bit (omega arith) low ∙ there k bit less low
      | inr more ↦
          let same : index ≡ k = omega arith in
          subst (λ n. listed new (16 * row + n) bit ≡ memory_bit line n bit) same (here bit low ∙ ap (λ n. n / 2 ^ bit % 2 == 1) is)
    ]

-- a part of what is alike
pub alike-part : (few all : ℕ) (bits others : RamBits) → few ≤ all → AreAlike all bits others → AreAlike few bits others
alike-part few all bits others less alike word bit below low = alike word bit (omega arith) low

pub alike-chain : (words : ℕ) (bits others last : RamBits) → AreAlike words bits others → AreAlike words others last → AreAlike words bits last
alike-chain words bits others last first second word bit below low = first word bit below low ∙ second word bit below low

-- ---- all lines

-- the next line is there
pub not_ended : (text left : List ℕ) (row : ℕ) → BeginsWithRam (lines_of text) → lines_of left ≡ drop row (lines_of text) → row < 16 → left ≢ []
unfolding lines_of
not_ended text left row begins lines few end =
    let none : drop row (lines_of text) ≡ [] = sym lines ∙ ap lines_of end in
    let past : length (lines_of text) ≤ row = drop_none (lines_of text) row none in
    let empty : line_at (lines_of text) row ≡ [] = get_or_past (lines_of text) row [] past in
    let clash : is_memory_line (trimmed []) ≡ true = subst (λ l. is_memory_line (trimmed l) ≡ true) empty (begins row few) in
    false≢true (sym no_empty ∙ clash)

-- it is a line of a RAM
pub next-digits : (text left content rest : List ℕ) (row : ℕ) → BeginsWithRam (lines_of text) → lines_of left ≡ drop row (lines_of text) → lines_of left ≡ content ∷ lines_of rest → row < 16
    → is_memory_line (trimmed content) ≡ true
next-digits text left content rest row begins lines is few =
    let at = drop_cons (lines_of text) row [] content (lines_of rest) (sym lines ∙ is) in
    subst (λ l. is_memory_line (trimmed l) ≡ true) at.1 (begins row few)

pub next-content : (text left content rest : List ℕ) (row : ℕ) → lines_of left ≡ drop row (lines_of text) → lines_of left ≡ content ∷ lines_of rest → line_at (lines_of text) row ≡ content
next-content text left content rest row lines is = (drop_cons (lines_of text) row [] content (lines_of rest) (sym lines ∙ is)).1

pub next-lines : (text left content rest : List ℕ) (row : ℕ) → lines_of left ≡ drop row (lines_of text) → lines_of left ≡ content ∷ lines_of rest → lines_of rest ≡ drop (row + 1) (lines_of text)
next-lines text left content rest row lines is = (drop_cons (lines_of text) row [] content (lines_of rest) (sym lines ∙ is)).2

pub next-wholes : (text left whole rest : List ℕ) (row : ℕ) → whole_lines_of left ≡ drop row (whole_lines_of text) → whole_lines_of left ≡ whole ∷ whole_lines_of rest
    → whole_lines_of rest ≡ drop (row + 1) (whole_lines_of text)
next-wholes text left whole rest row lines is = (drop_cons (whole_lines_of text) row [] whole (whole_lines_of rest) (sym lines ∙ is)).2

pub next-whole : (text left whole rest : List ℕ) (row : ℕ) → whole_lines_of left ≡ drop row (whole_lines_of text) → whole_lines_of left ≡ whole ∷ whole_lines_of rest
    → line_at (whole_lines_of text) row ≡ whole
next-whole text left whole rest row lines is = (drop_cons (whole_lines_of text) row [] whole (whole_lines_of rest) (sym lines ∙ is)).1

before-few : (byte : ℕ) (rest : List ℕ) (size : ℕ) → length rest ≤ size → length (before_rest byte rest) ≤ suc size
before-few byte [] size few = elim (is_blank byte) as (λ is. length (if is then [] else byte ∷ []) ≤ suc size) [ true ↦ omega arith | false ↦ omega arith ]
before-few byte (next ∷ rest) size few = omega arith

trimmed-few : (line : List ℕ) → length (trimmed line) ≤ length line
unfolding trimmed
trimmed-few [] = omega arith
trimmed-few (byte ∷ bytes) = before-few byte (trimmed bytes) (length bytes) (trimmed-few bytes)

-- it has its digits
pub next-size : (text content whole : List ℕ) (lines wholes : List (List ℕ)) → lines_of text ≡ content ∷ lines → whole_lines_of text ≡ whole ∷ wholes → is_memory_line (trimmed content) ≡ true
    → 64 ≤ length whole
unfolding is_memory_line
next-size text content whole lines wholes is are digits =
    let parts = and_parts (length (trimmed content) == 64) _ digits in
    omega (arith, eqb-true (length (trimmed content)) 64 parts.0, trimmed-few content, content-within text content whole lines wholes is are)

-- its bits
pub row-there : (old new : List Bool) (text content : List ℕ) (row : ℕ) → AreAlike (16 * row) (listed old) (ram_bits (lines_of text)) → AreAlike (16 * row) (listed new) (listed old)
    → ((index bit : ℕ) → index < 16 → bit < 16 → listed new (16 * row + index) bit ≡ memory_bit (trimmed content) index bit) → line_at (lines_of text) row ≡ content
    → AreAlike (16 * (row + 1)) (listed new) (ram_bits (lines_of text))
row-there old new text content row there before here at word bit below low =
    elim (cases_lt word (16 * row)) [
      | inl less ↦ before word bit less low ∙ there word bit less low
      | inr more ↦
          let index = word - 16 * row in
          let same : 16 * row + index ≡ word = omega arith in
          let line : word / 16 ≡ row = omega arith in
          let place : word % 16 ≡ index = omega arith in
          let left : listed new word bit ≡ memory_bit (trimmed content) index bit = subst (λ n. listed new n bit ≡ memory_bit (trimmed content) index bit) same (here index bit (omega arith) low) in
          left ∙ ap₂ (λ l n. memory_bit (trimmed l) n bit) (sym at ∙ ap (line_at (lines_of text)) (sym line)) (sym place)
    ]

-- ---- one column

pub column-put : (bits : List Bool) (start : List Bool) (to : Contents) (column bit word : ℕ) (value : Bool) → length bits ≡ 4096 → bit < 16 → word < 256 → value ≡ column_bit to column word
    → ((w place : ℕ) → w < 256 → place < 16 → listed bits w place ≡ (if nat_lt w word && (place == bit) then column_bit to column w else listed start w place))
    → (w place : ℕ) → w < 256 → place < 16
    → listed (set bits (16 * word + bit) value) w place ≡ (if nat_lt w (word + 1) && (place == bit) then column_bit to column w else listed start w place)
column-put bits start to column bit word value size low few is there w place within below =
    listed-set bits w place word bit value (omega arith) below low
    ∙ elim (cases_eq w word) [
      | inl same ↦
          let least : nat_lt w word ≡ false = le-ltb w word (omega arith) in
          let less : nat_lt w (word + 1) ≡ true = lt-ltb w (word + 1) (omega arith) in
          rw (eq-eqb w word same, less) (elim (cases_eq place bit) [
            | inl equal ↦ rw (eq-eqb place bit equal) (is ∙ ap (column_bit to column) (sym same))
            | inr apart ↦ rw (ne_eqb place bit apart) (there w place within below ∙ rw (least) refl)
          ])
      | inr other ↦ elim (cases_lt w word) [
        | inl before ↦ rw (ne_eqb w word other, lt-ltb w (word + 1) (omega arith)) (there w place within below ∙ rw (lt-ltb w word before) refl)
        | inr after ↦ rw (ne_eqb w word other, le-ltb w (word + 1) (omega arith)) (there w place within below ∙ rw (le-ltb w word after) refl)
      ]
    ]

pub column-begun : (start : List Bool) (to : Contents) (column bit w place : ℕ) → listed start w place ≡ (if nat_lt w 0 && (place == bit) then column_bit to column w else listed start w place)
column-begun start to column bit w place = rw (le-ltb w 0 (omega arith)) refl

pub column-ended : (bits start : List Bool) (to : Contents) (column bit word : ℕ) → word ≡ 256
    → ((w place : ℕ) → w < 256 → place < 16 → listed bits w place ≡ (if nat_lt w word && (place == bit) then column_bit to column w else listed start w place))
    → AreAlike 256 (listed bits) (λ w place. if place == bit then column_bit to column w else listed start w place)
column-ended bits start to column bit word all there w place within below = there w place within below ∙ rw (lt-ltb w word (omega arith)) refl

-- ---- a column that is looked up

-- the column of a place in the words, as it is looked up
pub looked-up : (file : Contents) (bits : List Bool) (bit : ℕ) (found : Option ℕ) → bit < 16 → found ≡ match_of file (column_from (λ place. get_or bits (bit + place * 16) false))
    → found ≡ match_of file (ram_column (listed bits) bit)
looked-up file bits bit found low is =
    is ∙ ap (match_of file) (column_from-same (λ place. get_or bits (bit + place * 16) false) (λ word. listed bits word bit)
    (λ word few. let here : bit + word * 16 ≡ 16 * word + bit = omega arith in ap (λ n. get_or bits n false) here))

-- a column that isn't found stays
pub kept-bits : (file to : Contents) (bits : List Bool) (bit : ℕ) → None ≡ match_of file (ram_column (listed bits) bit)
    → AreAlike 256 (listed bits) (λ word place. if place == bit then columns_after file to (listed bits) word place else listed bits word place)
kept-bits file to bits bit none word place few low =
    elim (cases_eq place bit) [
      | inl same ↦ rw (eq-eqb place bit same) (ap (λ found. bit_from to found word (listed bits word place)) (none ∙ ap (λ n. match_of file (ram_column (listed bits) n)) (sym same)))
      | inr apart ↦ rw (ne_eqb place bit apart) refl
    ]

pub kept-count : (file : Contents) (bits : List Bool) (bit column count : ℕ) → None ≡ match_of file (ram_column (listed bits) bit) → column < column_count file
    → count ≡ count + length (column_found file (listed bits) column bit)
kept-count file bits bit column count none within =
    rw (match-none file (ram_column (listed bits) bit) column (sym none) within) (omega arith)

-- a column that is found is replaced
pub put-bits : (file to : Contents) (bits new : List Bool) (bit column : ℕ) → Some column ≡ match_of file (ram_column (listed bits) bit)
    → AreAlike 256 (listed new) (λ word place. if place == bit then column_bit to column word else listed bits word place)
    → AreAlike 256 (listed new) (λ word place. if place == bit then columns_after file to (listed bits) word place else listed bits word place)
put-bits file to bits new bit column some put word place few low =
    put word place few low ∙ elim (cases_eq place bit) [
      | inl same ↦ rw (eq-eqb place bit same) (ap (λ found. bit_from to found word (listed bits word place)) (some ∙ ap (λ n. match_of file (ram_column (listed bits) n)) (sym same)))
      | inr apart ↦ rw (ne_eqb place bit apart) refl
    ]

-- and counted
pub put-count : (file : Contents) (bits : List Bool) (found : List ℕ) (bit place column : ℕ) → same_fault file ≡ None → length found ≡ column_count file
    → Some place ≡ match_of file (ram_column (listed bits) bit) → column < column_count file
    → get_or (set found place (get_or found place 0 + 1)) column 0 ≡ get_or found column 0 + length (column_found file (listed bits) column bit)
put-count file bits found bit place column none size some within =
    let only = match-only file (ram_column (listed bits) bit) place column none (sym some) within in
    elim (cases_eq place column) [
      | inl same ↦
          let holds_so : is_same (column_at file column) (ram_column (listed bits) bit) ≡ true = only ∙ eq-eqb place column same in
          let inside : place < length found = omega (arith, match-within file (ram_column (listed bits) bit) place (sym some)) in
          rw holds_so (subst (λ k. get_or (set found place (get_or found place 0 + 1)) k 0 ≡ get_or found k 0 + 1) same (get_or-set_same found place (get_or found place 0 + 1) 0 inside))
      | inr apart ↦
          let not_so : is_same (column_at file column) (ram_column (listed bits) bit) ≡ false = only ∙ ne_eqb place column apart in
          rw not_so (get_or-set_other found place column (get_or found place 0 + 1) 0 (λ e. apart (sym e)) ∙ omega arith)
    ]

-- ---- all columns

-- the columns from a bit on are those before
after-alike : (from to : Contents) (bits others : RamBits) (word bit : ℕ) → ((w : ℕ) → w < 256 → bits w bit ≡ others w bit) → word < 256 → columns_after from to bits word bit ≡ columns_after from to others word bit
after-alike from to bits others word bit alike few =
    ap₂ (λ column old. bit_from to (match_of from column) word old) (column_from-same (λ w. bits w bit) (λ w. others w bit) alike) (alike word few)

pub bits-more : (from to : Contents) (bits new start : List Bool) (bit : ℕ) → bit < 16
    → ((word place : ℕ) → word < 256 → place < 16 → listed bits word place ≡ (if nat_lt place bit then columns_after from to (listed start) word place else listed start word place))
    → AreAlike 256 (listed new) (λ word place. if place == bit then columns_after from to (listed bits) word place else listed bits word place)
    → (word place : ℕ) → word < 256 → place < 16 → listed new word place ≡ (if nat_lt place (bit + 1) then columns_after from to (listed start) word place else listed start word place)
bits-more from to bits new start bit low there here word place few within =
    here word place few within ∙ elim (cases_eq place bit) [
      | inl same ↦
          let old : (w : ℕ) → w < 256 → listed bits w place ≡ listed start w place = λ w small. there w place small within ∙ rw (le-ltb place bit (omega arith)) refl in
          rw (eq-eqb place bit same, lt-ltb place (bit + 1) (omega arith)) (after-alike from to (listed bits) (listed start) word place old few)
      | inr apart ↦ elim (cases_lt place bit) [
        | inl before ↦ rw (ne_eqb place bit apart, lt-ltb place (bit + 1) (omega arith)) (there word place few within ∙ rw (lt-ltb place bit before) refl)
        | inr after ↦ rw (ne_eqb place bit apart, le-ltb place (bit + 1) (omega arith)) (there word place few within ∙ rw (le-ltb place bit after) refl)
      ]
    ]

pub bits-ended : (from to : Contents) (bits start : List Bool) (bit : ℕ) → bit ≡ 16
    → ((word place : ℕ) → word < 256 → place < 16 → listed bits word place ≡ (if nat_lt place bit then columns_after from to (listed start) word place else listed start word place))
    → AreAlike 256 (listed bits) (columns_after from to (listed start))
bits-ended from to bits start bit all there word place few within = there word place few within ∙ rw (lt-ltb place bit (omega arith)) refl

-- the count of one bit more
pub counts-more : (from : Contents) (bits start : List Bool) (to : Contents) (bit column before count first : ℕ) → bit < 16
    → ((word place : ℕ) → word < 256 → place < 16 → listed bits word place ≡ (if nat_lt place bit then columns_after from to (listed start) word place else listed start word place))
    → before ≡ first + length (gathered_below bit (column_found from (listed start) column)) → count ≡ before + length (column_found from (listed bits) column bit)
    → count ≡ first + length (gathered_below (bit + 1) (column_found from (listed start) column))
counts-more from bits start to bit column before count first low there so_far next =
    let same : ram_column (listed bits) bit ≡ ram_column (listed start) bit =
    column_from-same (λ w. listed bits w bit) (λ w. listed start w bit) (λ w few. there w bit few low ∙ rw (le-ltb bit bit (omega arith)) refl) in
    let found : column_found from (listed bits) column bit ≡ column_found from (listed start) column bit = ap (λ other. if is_same (column_at from column) other then bit ∷ [] else []) same in
    let more = ap length (gathered_below-more bit (column_found from (listed start) column)) ∙ length-append (gathered_below bit (column_found from (listed start) column)) (column_found from (listed start) column bit) in
    omega (arith, so_far, next, ap length found, more)

-- at most one a bit
pub count-one : (from : Contents) (bits : RamBits) (column bit : ℕ) → length (column_found from bits column bit) ≤ 1
count-one from bits column bit = elim (is_same (column_at from column) (ram_column bits bit)) as (λ is. length (if is then bit ∷ [] else []) ≤ 1) [ true ↦ omega arith | false ↦ omega arith ]

-- ---- words written

pub word-listed : (bits : List Bool) (at word : ℕ) → word ≡ word_from 16 (λ place. get_or bits (16 * at + place * 1) false) → word ≡ word_with (listed bits) at
word-listed bits at word is =
    is ∙ word_from-same 16 (λ place. get_or bits (16 * at + place * 1) false) (listed bits at) (λ place few. let here : 16 * at + place * 1 ≡ 16 * at + place = omega arith in ap (λ n. get_or bits n false) here)

-- Lines of digits are a file of memory words without a fault.
use Rattle.std.proofs.Common.{◌≡◌, ℕ, zero, suc, ◌+◌, ◌*◌, ◌<◌, ◌≤◌, Bool, true, false, ◌==◌, ◌&&◌, ◌||◌, List, [], ◌∷◌, ◌++◌, length, take, refl, sym, ap, ◌∙◌, length-append, arith}
use Rattle.std.proofs.lemmas.Bool.{and_parts, ne_eqb, ltb-true, le-ltb}
use Rattle.std.proofs.lemmas.List.{length-map, take_more, take_all}
use Rattle.std.proofs.lemmas.List.Elements.{All-head, All-tail, All-weaker}
use Rattle.std.proofs.Math.Nat.{suc-mul}
use Rattle.std.specs.Prelude.{All, None, nat_lt}
use Rattle.std.specs.List.{list_all}
use Rattle.hex.specs.Hex.{is_hex_digit}
use Rattle.index_search.specs.Places.{gathered_below}
use Rattle.index_search.proofs.Places.{first_below-none}
use Rattle.text_lines.specs.declared.words.Separators.TheVariants.{Whitespace}
use Rattle.text_lines.specs.Lines.{lines_of, line_at}
use Rattle.text_lines.specs.Words.{words_of}
use Rattle.text_lines.specs.Written.{text_of, IsPlain}
use Rattle.text_lines.proofs.Spaced.{IsWord-high, words_of-last}
use Rattle.text_lines.proofs.Written.{lines_of-text_of}
use Rattle.bram_replace.specs.HexText.{all_words, before_comment, bits_in, contents_of, digits_in, digits_set, hex_fault_of, is_depth, is_misfit, is_word, line_cause, words_before, words_in}

-- a byte of a word: a digit, which is past the slash
abbrev pub is_digit : ℕ → Bool
is_digit byte = is_hex_digit byte && nat_lt 47 byte

-- bytes that are all digits
abbrev pub AreDigits : List ℕ → Type 0
AreDigits line = All (λ byte. is_digit byte ≡ true) line

-- a line of so many digits
pub record IsLine (digits : ℕ) (line : List ℕ) : Type 0 where
  pub count : length line ≡ digits
  pub all : AreDigits line

digit-hex : (byte : ℕ) → is_digit byte ≡ true → is_hex_digit byte ≡ true
digit-hex byte is = (and_parts (is_hex_digit byte) (nat_lt 47 byte) is).0

digit-high : (byte : ℕ) → is_digit byte ≡ true → 47 < byte
digit-high byte is = ltb-true 47 byte (and_parts (is_hex_digit byte) (nat_lt 47 byte) is).1

-- ---- a line

before_comment-digits : (line : List ℕ) → AreDigits line → before_comment line ≡ line
unfolding before_comment
before_comment-digits [] all = refl
before_comment-digits (byte ∷ bytes) all =
    let high : 47 < byte = digit-high byte (All-head (λ byte. is_digit byte ≡ true) byte bytes all) in
    let other : (byte == 47) ≡ false = ne_eqb byte 47 (λ same. omega arith) in
    rw other (ap (λ rest. byte ∷ rest) (before_comment-digits bytes (All-tail (λ byte. is_digit byte ≡ true) byte bytes all)))

digits_in-digits : (line : List ℕ) → AreDigits line → digits_in line ≡ line
digits_in-digits [] all = refl
digits_in-digits (byte ∷ bytes) all =
    let is : is_hex_digit byte ≡ true = digit-hex byte (All-head (λ byte. is_digit byte ≡ true) byte bytes all) in
    rw is (ap (λ rest. byte ∷ rest) (digits_in-digits bytes (All-tail (λ byte. is_digit byte ≡ true) byte bytes all)))

are_written : (line : List ℕ) → AreDigits line → list_all (λ byte. is_hex_digit byte || (byte == 95)) line ≡ true
are_written [] all = refl
are_written (byte ∷ bytes) all =
    let is : is_hex_digit byte ≡ true = digit-hex byte (All-head (λ byte. is_digit byte ≡ true) byte bytes all) in
    rw is (are_written bytes (All-tail (λ byte. is_digit byte ≡ true) byte bytes all))

is_word-digits : (line : List ℕ) → 0 < length line → AreDigits line → is_word line ≡ true
is_word-digits [] some all = absurd (omega arith)
is_word-digits (byte ∷ bytes) some all =
    let is : is_hex_digit byte ≡ true = digit-hex byte (All-head (λ byte. is_digit byte ≡ true) byte bytes all) in
    rw (are_written (byte ∷ bytes) all, is) refl

-- the only word of a line
words_in-digits : (line : List ℕ) → 0 < length line → AreDigits line → words_in line ≡ line ∷ []
words_in-digits line some all =
    ap (words_of Whitespace) (before_comment-digits line all)
    ∙ words_of-last Whitespace line (IsWord-high Whitespace line some (All-weaker (λ byte. is_digit byte ≡ true) (λ byte. 32 < byte) (λ byte is. let high = digit-high byte is in omega arith) line all))

is_misfit-digits : (digits : ℕ) (line : List ℕ) → digits ≤ 64 → IsLine digits line → is_misfit digits line ≡ false
is_misfit-digits digits line few is =
    let count : length (digits_in line) ≡ digits = ap length (digits_in-digits line is.all) ∙ is.count in
    rw (count, le-ltb 64 digits few) (grind arith)

-- ---- the lines

-- each line is one of so many digits
abbrev pub AreLines : ℕ → List (List ℕ) → Type 0
AreLines digits lines = All (IsLine digits) lines

words_in-line : (digits : ℕ) (lines : List (List ℕ)) (n : ℕ) → 0 < digits → AreLines digits lines → n < length lines → words_in (line_at lines n) ≡ line_at lines n ∷ []
words_in-line digits lines n some are lt =
    let is = are n [] lt in
    words_in-digits (line_at lines n) (omega (arith, is.count)) is.all

-- each line is a word
words_before-lines : (digits : ℕ) (lines : List (List ℕ)) (n : ℕ) → 0 < digits → AreLines digits lines → n ≤ length lines → words_before lines n ≡ take n lines
unfolding gathered_below
words_before-lines digits lines zero some are le = refl
words_before-lines digits lines (suc n) some are le =
    let lt : n < length lines = omega arith in
    let next : suc n ≡ n + 1 = omega arith in
    let cut : take (suc n) lines ≡ take n lines ++ line_at lines n ∷ [] = ap (λ k. take k lines) next ∙ take_more lines n [] lt in
    ap (λ words. words ++ words_in (line_at lines n)) (words_before-lines digits lines n some are (omega arith))
    ∙ ap (λ words. take n lines ++ words) (words_in-line digits lines n some are lt) ∙ sym cut

-- the first line sets the number of digits
digits_set-lines : (digits : ℕ) (lines : List (List ℕ)) (n : ℕ) → AreLines digits lines → 0 < n → n ≤ length lines → digits_set (take n lines) ≡ digits
digits_set-lines digits lines zero are some le = absurd (omega arith)
digits_set-lines digits [] (suc n) are some le = absurd (omega arith)
digits_set-lines digits (line ∷ lines) (suc n) are some le =
    let is : IsLine digits line = are 0 [] (omega arith) in
    ap length (digits_in-digits line is.all) ∙ is.count

-- no line is faulty
no_cause : (digits : ℕ) (lines : List (List ℕ)) (n : ℕ) → 0 < digits → digits ≤ 64 → AreLines digits lines → n < length lines → line_cause lines n ≡ None
no_cause digits lines n some few are lt =
    let is = are n [] lt in
    let set : digits_set (words_before lines (n + 1)) ≡ digits =
    ap digits_set (words_before-lines digits lines (n + 1) some are (omega arith)) ∙ digits_set-lines digits lines (n + 1) are (omega arith) (omega arith) in
    let word : is_word (line_at lines n) ≡ true = is_word-digits (line_at lines n) (omega (arith, is.count)) is.all in
    let fits : is_misfit digits (line_at lines n) ≡ false = is_misfit-digits digits (line_at lines n) few is in
    rw (set, words_in-line digits lines n some are lt, word, fits) refl

-- ---- the text

plain_lines : (digits : ℕ) (lines : List (List ℕ)) → AreLines digits lines → All IsPlain lines
plain_lines digits lines are =
    All-weaker (IsLine digits) IsPlain (λ line is. All-weaker (λ byte. is_digit byte ≡ true) (λ byte. 32 ≤ byte) (λ byte digit. let high = digit-high byte digit in omega arith) line is.all) lines are

lines-are : (digits : ℕ) (lines : List (List ℕ)) → AreLines digits lines → lines_of (text_of lines) ≡ lines
lines-are digits lines are = lines_of-text_of lines (plain_lines digits lines are)

all_words-are : (digits : ℕ) (lines : List (List ℕ)) → 0 < digits → AreLines digits lines → all_words (text_of lines) ≡ lines
all_words-are digits lines some are =
    rw (lines-are digits lines are) (words_before-lines digits lines (length lines) some are (omega arith) ∙ take_all (length lines) lines (omega arith))

-- a text of such lines has no fault
pub no_fault : (digits : ℕ) (lines : List (List ℕ)) → 0 < digits → digits ≤ 64 → AreLines digits lines → is_depth (length lines) ≡ true → hex_fault_of (text_of lines) ≡ None
unfolding hex_fault_of
no_fault digits lines some few are deep =
    rw (all_words-are digits lines some are, lines-are digits lines are, first_below-none (length lines) (line_cause lines) (λ n lt. no_cause digits lines n some few are lt), deep) refl

-- how many digits its words have, and how many there are
pub digits-are : (digits : ℕ) (lines : List (List ℕ)) → 0 < digits → AreLines digits lines → 0 < length lines → (contents_of (text_of lines)).digits ≡ digits
unfolding contents_of
digits-are digits lines some are deep =
    ap digits_set (all_words-are digits lines some are ∙ sym (take_all (length lines) lines (omega arith))) ∙ digits_set-lines digits lines (length lines) are deep (omega arith)

pub depth-is : (digits : ℕ) (lines : List (List ℕ)) → 0 < digits → AreLines digits lines → length (contents_of (text_of lines)).words ≡ length lines
unfolding contents_of
depth-is digits lines some are = length-map (all_words (text_of lines)) bits_in ∙ ap length (all_words-are digits lines some are)

-- how long the text is
pub length-lines : (digits : ℕ) (lines : List (List ℕ)) → AreLines digits lines → length (text_of lines) ≡ length lines * (digits + 1)
unfolding text_of
length-lines digits [] are = omega arith
length-lines digits (line ∷ lines) are =
    let is : IsLine digits line = are 0 [] (omega arith) in
    let more = length-lines digits lines (All-tail (IsLine digits) line lines are) in
    let whole = length-append (line ++ 10 ∷ []) (text_of lines) in
    let ended = length-append line (10 ∷ []) in
    let first = is.count in
    let product : suc (length lines) * (digits + 1) ≡ length lines * (digits + 1) + (digits + 1) = suc-mul (length lines) (digits + 1) in
    omega arith

-- A bit's word at the front of others.
use Rattle.std.proofs.Common.{◌≡◌, ℕ, suc, ◌+◌, ◌-◌, ◌<◌, true, false, List, [], ◌∷◌, ◌++◌, append_assoc, append-nil, length, length-append, take, drop, get_or, refl, sym, ap, ◌∙◌, arith}
use Rattle.std.specs.Prelude.{All, Some, ◌==◌, nat_le}
use Rattle.std.specs.List.{list_all, position_or_len, before_first, after_first}
use Rattle.std.specs.Char.{is_ascii_digit}
use Rattle.std.proofs.lemmas.Bool.{and_parts, eqb-true, eq-eqb, le-leb}
use Rattle.std.proofs.lemmas.Bool.Decides.{nat_tests}
use Rattle.std.proofs.lemmas.List.Elements.{All-append, All-cons}
use Rattle.std.proofs.Math.Seq.{get_or-append_seam, take-append_seam}
use Rattle.text_lines.specs.declared.words.Separators.TheVariants.{SpacesAndTabs}
use Rattle.text_lines.specs.Numbers.{StartsWithNumber}
use Rattle.text_lines.specs.Words.{number_of, pieces_of, words_of}
use Rattle.text_lines.proofs.Spaced.{IsWord, IsWord-high, space-parts, words_of-last, words_of-separator, words_of-word}
use Rattle.chipdb_lines.specs.Kept.{StartsWithWord}
use Rattle.chipdb_lines.specs.Words.{bit_of, inside, is_bracket, words_in}
use Rattle.chipdb_lines.proofs.Choices.{number-digits, number-high}

-- a digit is no bracket
digit-no_bracket : (byte : ℕ) → is_ascii_digit byte ≡ true → is_bracket byte ≡ false
digit-no_bracket byte is = grind (arith, nat_tests)

-- the first bracket comes after the digits before it
bracket-place : (digits rest : List ℕ) → list_all is_ascii_digit digits ≡ true → position_or_len is_bracket (digits ++ (91 ∷ rest)) ≡ length digits
bracket-place [] rest all = refl
bracket-place (digit ∷ digits) rest all =
    let parts = and_parts (is_ascii_digit digit) (list_all is_ascii_digit digits) all in
    let next : 1 + length digits ≡ suc (length digits) = omega arith in
    rw (digit-no_bracket digit parts.0) (ap (λ n. 1 + n) (bracket-place digits rest parts.1) ∙ next)

-- what follows a byte
drop-past : (xs rest : List ℕ) (byte : ℕ) → drop (length xs + 1) (xs ++ (byte ∷ rest)) ≡ rest
drop-past [] rest byte = refl
drop-past (x ∷ xs) rest byte =
    let next : length (x ∷ xs) + 1 ≡ suc (length xs + 1) = omega arith in
    ap (λ n. drop n (x ∷ (xs ++ (byte ∷ rest)))) next ∙ drop-past xs rest byte

row-digits : (first second : List ℕ) → list_all is_ascii_digit first ≡ true → before_first is_bracket (first ++ (91 ∷ second)) ≡ first
row-digits first second all = ap (λ n. take n (first ++ (91 ∷ second))) (bracket-place first second all) ∙ take-append_seam first (91 ∷ second)

col-digits : (first second : List ℕ) → list_all is_ascii_digit first ≡ true → after_first is_bracket (first ++ (91 ∷ second)) ≡ second
col-digits first second all = ap (λ n. drop (n + 1) (first ++ (91 ∷ second))) (bracket-place first second all) ∙ drop-past first second 91

-- the word of a bit: `B`, what is between, and `]`
abbrev word_of : List ℕ → List ℕ
word_of body = 66 ∷ (body ++ (93 ∷ []))

body-inside : (body : List ℕ) → inside (word_of body) ≡ body
body-inside body =
    let count : length (word_of body) - 2 ≡ length body = omega (arith, length-append body (93 ∷ [])) in
    ap (λ n. take n (body ++ (93 ∷ []))) count ∙ take-append_seam body (93 ∷ [])

word-last : (body : List ℕ) → get_or (word_of body) (length (word_of body) - 1) 0 ≡ 93
word-last body =
    let count : length (word_of body) - 1 ≡ length (66 ∷ body) = omega (arith, length-append body (93 ∷ [])) in
    ap (λ n. get_or (word_of body) n 0) count ∙ get_or-append_seam (66 ∷ body) 93 [] 0

-- the bit that it names
bit-named : (first second : List ℕ) (row col : ℕ) → number_of first ≡ Some row → number_of second ≡ Some col → bit_of (word_of (first ++ (91 ∷ second))) ≡ Some (record { row = row; col = col })
unfolding bit_of
bit-named first second row col one two =
    let body : List ℕ = first ++ (91 ∷ second) in
    let digits = number-digits first row one in
    let long : nat_le 2 (length (word_of body)) ≡ true = le-leb 2 (length (word_of body)) (omega (arith, length-append body (93 ∷ []))) in
    let ends : (get_or (word_of body) (length (word_of body) - 1) 0 == 93) ≡ true = eq-eqb (get_or (word_of body) (length (word_of body) - 1) 0) 93 (word-last body) in
    let row_is : number_of (before_first is_bracket (inside (word_of body))) ≡ Some row = ap (λ b. number_of (before_first is_bracket b)) (body-inside body) ∙ ap number_of (row-digits first second digits) ∙ one in
    let col_is : number_of (after_first is_bracket (inside (word_of body))) ≡ Some col = ap (λ b. number_of (after_first is_bracket b)) (body-inside body) ∙ ap number_of (col-digits first second digits) ∙ two in
    rw (long, ends, row_is, col_is) refl

-- it is a word
word-is : (first second : List ℕ) (row col : ℕ) → number_of first ≡ Some row → number_of second ≡ Some col → IsWord SpacesAndTabs (word_of (first ++ (91 ∷ second)))
word-is first second row col one two =
    let High : ℕ → Type 0 = λ byte. 32 < byte in
    let body : All High (first ++ (91 ∷ second)) = All-append High first (91 ∷ second) (number-high first row one) (All-cons High 91 second (omega arith) (number-high second col two)) in
    let last : All High (93 ∷ []) = All-cons High 93 [] (omega arith) (λ k d lt. absurd (omega (arith, lt))) in
    IsWord-high SpacesAndTabs (word_of (first ++ (91 ∷ second))) (omega arith)
    (All-cons High 66 ((first ++ (91 ∷ second)) ++ (93 ∷ [])) (omega arith) (All-append High (first ++ (91 ∷ second)) (93 ∷ []) body last))

-- no text has no word
no-words : words_in [] ≡ []
unfolding words_of pieces_of
no-words = refl

-- a word that ends at the end of the text, or before a space
words-ended : (word rest : List ℕ) → IsWord SpacesAndTabs word → (get_or rest 0 32 == 32) ≡ true → words_in (word ++ rest) ≡ word ∷ words_in rest
words-ended word [] is ends = ap words_in (append-nil word) ∙ words_of-last SpacesAndTabs word is ∙ ap (λ ws. word ∷ ws) (sym no-words)
words-ended word (byte ∷ rest) is ends =
    let space : byte ≡ 32 = eqb-true byte 32 ends in
    ap (λ b. words_in (word ++ (b ∷ rest))) space ∙ words_of-word SpacesAndTabs word 32 rest is (space-parts SpacesAndTabs)
    ∙ ap (λ ws. word ∷ ws) (sym (words_of-separator SpacesAndTabs 32 rest (space-parts SpacesAndTabs)) ∙ ap (λ b. words_in (b ∷ rest)) (sym space))

-- a bit's word at the front of a text
pub bit-usual : (after second rest : List ℕ) (row col : ℕ) → StartsWithNumber 91 after row second → StartsWithNumber 93 second col rest → (get_or rest 0 32 == 32) ≡ true
    → StartsWithWord (words_in (66 ∷ after)) (Some (row, col)) (words_in rest)
bit-usual after second rest row col one two ends =
    let body : List ℕ = one.digits ++ (91 ∷ two.digits) in
    let text : 66 ∷ after ≡ word_of body ++ rest =
    ap (λ t. 66 ∷ t) (one.text_is ∙ ap (λ t. one.digits ++ (91 ∷ t)) two.text_is ∙ sym (append_assoc one.digits (91 ∷ two.digits) (93 ∷ rest)) ∙ sym (append_assoc body (93 ∷ []) rest)) in
    record {
      word = word_of body;
      words_are = ap words_in text ∙ words-ended (word_of body) rest (word-is one.digits two.digits row col one.number_is two.number_is) ends;
      names = bit-named one.digits two.digits row col one.number_is two.number_is;
    }

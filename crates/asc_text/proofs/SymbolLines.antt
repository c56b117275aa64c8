-- A statement `.sym` with one space before its number.
use Rattle.std.proofs.Common.{◌≡◌, ℕ, ◌<◌, true, false, not, List, [], ◌∷◌, ◌++◌, length, take, take_while, drop, refl, sym, ap, ◌∙◌, inl, inr, arith, Option, Some, None}
use Rattle.std.proofs.lemmas.Bool.{cases_Bool, and_parts, both_ways, eqb-true, ltb-true}
use Rattle.std.proofs.lemmas.List.{take-append-drop}
use Rattle.std.proofs.Math.Seq.{drop-append_seam}
use Rattle.std.proofs.lemmas.List.Elements.{All-head, All-tail, All-weaker}
use Rattle.std.proofs.lemmas.List.Sums.{take_while-cons, AllPass-from_list_all}
use Rattle.std.specs.Prelude.{All, ◌==◌, ◌&&◌, nat_lt, nat_le, codes, IfSome}
use Rattle.std.specs.List.{list_all}
use Rattle.std.specs.Char.{is_ascii_digit}
use Rattle.text_lines.specs.declared.words.Separators.TheVariants.{Spaces}
use Rattle.text_lines.specs.Words.{is_separator, is_number, number_of, from_word, first_word, after_word}
use Rattle.text_lines.specs.Numbers.{StartsWithNumber}
use Rattle.text_lines.proofs.Spaced.{IsWord, from_word-inner}
use Rattle.asc_text.specs.declared.statement.Statement.TheVariants.{Symbol}
use Rattle.asc_text.specs.Statements.{name_after, spelled, symbol_of_parts}

-- ---- a word with a space after it

-- what is no separator
abbrev inner : ℕ → Type 0
inner byte = is_separator Spaces byte ≡ false

taken-free : (word rest : List ℕ) → All inner word → take_while (λ byte. not (is_separator Spaces byte)) (word ++ (32 ∷ rest)) ≡ word
taken-free [] rest free = take_while-cons (λ byte. not (is_separator Spaces byte)) 32 rest
taken-free (byte ∷ word) rest free =
    take_while-cons (λ byte. not (is_separator Spaces byte)) byte (word ++ (32 ∷ rest))
    ∙ rw (All-head inner byte word free) (ap (λ more. byte ∷ more) (taken-free word rest (All-tail inner byte word free)))

begins-free : (word rest : List ℕ) → 0 < length word → All inner word → from_word Spaces (word ++ (32 ∷ rest)) ≡ word ++ (32 ∷ rest)
begins-free [] rest some free = absurd (omega arith)
begins-free (byte ∷ word) rest some free = from_word-inner Spaces byte (word ++ (32 ∷ rest)) (All-head inner byte word free)

first-is : (word rest : List ℕ) → IsWord Spaces word → first_word Spaces (word ++ (32 ∷ rest)) ≡ word
first-is word rest is = ap (λ line. take_while (λ byte. not (is_separator Spaces byte)) line) (begins-free word rest is.some is.free) ∙ taken-free word rest is.free

after-is : (word rest : List ℕ) → IsWord Spaces word → after_word Spaces (word ++ (32 ∷ rest)) ≡ 32 ∷ rest
after-is word rest is =
    ap (λ first. drop (length first) (from_word Spaces (word ++ (32 ∷ rest)))) (first-is word rest is)
    ∙ ap (λ line. drop (length word) line) (begins-free word rest is.some is.free)
    ∙ drop-append_seam word (32 ∷ rest)

-- ---- a number

digit-inner : (byte : ℕ) → is_ascii_digit byte ≡ true → is_separator Spaces byte ≡ false
digit-inner byte digit = elim (cases_Bool (byte == 32)) [
  | inl space ↦ absurd (both_ways (is_ascii_digit byte) (ap is_ascii_digit (eqb-true byte 32 space)) digit)
  | inr other ↦ other
]

-- the digits of a number are a word
number-word : (word : List ℕ) (number : ℕ) → number_of word ≡ Some number → IsWord Spaces word
unfolding number_of
number-word word number is = elim (cases_Bool (is_number word)) [
  | inl digits ↦
      let parts = and_parts (nat_lt 0 (length word) && nat_le (length word) 9) (list_all is_ascii_digit word) digits in
      let size = and_parts (nat_lt 0 (length word)) (nat_le (length word) 9) parts.0 in
      record {
        some = ltb-true 0 (length word) size.0;
        free = All-weaker (λ byte. is_ascii_digit byte ≡ true) inner digit-inner word (AllPass-from_list_all is_ascii_digit word parts.1);
      }
  | inr other ↦ absurd (cc (rw other at is))
]

-- ---- the statement

-- a name of a byte at least
named : (number : ℕ) (name : List ℕ) → 0 < length name → symbol_of_parts (Some number) name ≡ Some (Symbol number)
named number [] some = absurd (omega arith)
named number (byte ∷ name) some = refl

parts-are : (text : List ℕ) (number : ℕ) (name : List ℕ) → StartsWithNumber 32 text number name → (number_of (first_word Spaces (32 ∷ text)) ≡ Some number) × (name_after (32 ∷ text) ≡ name)
unfolding from_word
parts-are text number name starts =
    let word = number-word starts.digits number starts.number_is in (
      ap (λ t. number_of (first_word Spaces t)) starts.text_is ∙ ap number_of (first-is starts.digits name word) ∙ starts.number_is,
      ap (λ t. drop 1 (after_word Spaces t)) starts.text_is ∙ ap (drop 1) (after-is starts.digits name word),
    )

-- the keyword, a space, a number, a space and a name
spells : (line text : List ℕ) (number : ℕ) (name : List ℕ) → line ≡ 46 ∷ 115 ∷ 121 ∷ 109 ∷ 32 ∷ text → StartsWithNumber 32 text number name → 0 < length name
    → spelled (first_word Spaces line) (after_word Spaces line) ≡ Some (Symbol number)
unfolding from_word
spells line text number name is starts some =
    let parts = parts-are text number name starts in
    ap (λ l. spelled (first_word Spaces l) (after_word Spaces l)) is
    ∙ ap (λ net. symbol_of_parts net (name_after (32 ∷ text))) parts.0
    ∙ ap (symbol_of_parts (Some number)) parts.1
    ∙ named number name some

-- the same if the keyword and the space are found at the front of a line
pub spells-after : (line : List ℕ) (found : Option ℕ) → take 5 line ≡ codes ".sym " → IfSome found (λ number. (name : List ℕ) × StartsWithNumber 32 (drop 5 line) number name × (0 < length name))
    → IfSome found (λ number. spelled (first_word Spaces line) (after_word Spaces line) ≡ Some (Symbol number))
spells-after line None front starts = tt
spells-after line (Some number) front starts =
    spells line (drop 5 line) number starts.0 (sym (take-append-drop 5 line) ∙ ap (λ first. first ++ drop 5 line) front) starts.1 starts.2

-- Texts that begin with the two words of a choice.
use Rattle.std.proofs.Common.{◌≡◌, ℕ, ◌+◌, ◌<◌, true, false, ◌&&◌, ◌||◌, List, [], ◌∷◌, ◌++◌, length, length-append, take, drop, get_or, refl, sym, ap, ◌∙◌, inl, inr, arith, true≢false}
use Rattle.std.specs.Prelude.{Option, Some, None, Ok, Err, ◌==◌, nat_lt}
use Rattle.std.specs.List.{list_all}
use Rattle.std.specs.Char.{is_ascii_digit}
use Rattle.std.proofs.lemmas.Bool.{and_parts, cases_Bool, eq-eqb, eqb-true, lt-ltb, ltb-true}
use Rattle.std.proofs.Math.Seq.{drop-append_seam, get_or-append_seam, take-append_seam}
use Rattle.text_lines.specs.Words.{number_of}
use Rattle.text_lines.specs.Numbers.{StartsWithNumber}
use Rattle.chipdb_lines.specs.declared.cause.DbCause.TheVariants.{NetRange, ValueLength}
use Rattle.chipdb_lines.specs.Words.{is_values}
use Rattle.chipdb_lines.specs.Items.{LinkChoice, choice_by, choice_of}
use Rattle.chipdb_lines.specs.Kept.{HasChoice}
use Rattle.chipdb_lines.proofs.Choices.{number-digits}

-- what is known of the two words of a choice
record ChoiceWords (nets count : ℕ) (values src : List ℕ) : Type 0 where
  number : ℕ
  number_is : number_of src ≡ Some number
  below : number < nets
  count_is : length values ≡ count
  all : list_all (λ byte. (byte == 48) || (byte == 49)) values ≡ true

words-by : (nets count : ℕ) (values src : List ℕ) (choice : LinkChoice) (found : Option ℕ) → number_of src ≡ found → choice_by nets count values found ≡ Ok choice → ChoiceWords nets count values src
words-by nets count values src choice None is says = absurd cc
words-by nets count values src choice (Some number) is says =
    elim (cases_Bool (nat_lt number nets)) [
      | inl lt ↦
          elim (cases_Bool (is_values count values)) [
            | inl fits ↦
                let parts = and_parts (length values == count) (list_all (λ byte. (byte == 48) || (byte == 49)) values) fits in
                record { number = number; number_is = is; below = ltb-true number nets lt; count_is = eqb-true (length values) count parts.0; all = parts.1 }
            | inr away ↦ let wrong : Err ValueLength ≡ Ok choice = rw (lt, away) at says in absurd cc
          ]
      | inr past ↦ let wrong : Err NetRange ≡ Ok choice = rw past at says in absurd cc
    ]

choice-words : (nets count : ℕ) (values src : List ℕ) (choice : LinkChoice) → choice_of nets count (values ∷ src ∷ []) ≡ Ok choice → ChoiceWords nets count values src
unfolding choice_of
choice-words nets count values src choice says = words-by nets count values src choice (number_of src) refl says

-- the space comes after exactly the values
choice-space : (nets count : ℕ) (text : List ℕ) → HasChoice nets count text → (0 < count) × (count < length text) × (get_or text count 0 ≡ 32)
choice-space nets count text has =
    let count_is : length has.values ≡ count = (choice-words nets count has.values has.src has.choice has.says).count_is in
    let some : 0 < length has.values = has.some in
    let after = 32 ∷ (has.src ++ (10 ∷ has.rest)) in
    let size : length text ≡ length has.values + length after = ap length has.text_is ∙ length-append has.values after in
    (omega arith, omega arith, (λ i. get_or (has.text_is i) (sym count_is i) 0) ∙ get_or-append_seam has.values 32 (has.src ++ (10 ∷ has.rest)) 0)

-- a text without that space begins with none
pub no-choice : (nets count : ℕ) (text : List ℕ) → (nat_lt 0 count && nat_lt count (length text) && (get_or text count 0 == 32)) ≡ false → HasChoice nets count text → ⊥
no-choice nets count text none has =
    let space = choice-space nets count text has in
    let there : (nat_lt 0 count && nat_lt count (length text) && (get_or text count 0 == 32)) ≡ true =
    rw (lt-ltb 0 count space.0, lt-ltb count (length text) space.1, eq-eqb (get_or text count 0) 32 space.2) refl in
    true≢false (sym there ∙ none)

-- what follows the values and a space, if a text begins with a choice
pub record HasNet (nets : ℕ) (values text : List ℕ) : Type 0 where
  pub number : ℕ
  pub rest : List ℕ
  pub starts : StartsWithNumber 10 text number rest
  pub below : number < nets
  pub all : list_all (λ byte. (byte == 48) || (byte == 49)) values ≡ true

-- equal lists have equal first elements, and equal rests
same-front : (xs ys a b : List ℕ) → length xs ≡ length ys → xs ++ a ≡ ys ++ b → xs ≡ ys
same-front xs ys a b count same = sym (take-append_seam xs a) ∙ (λ i. take (count i) (same i)) ∙ take-append_seam ys b

same-after : (xs ys a b : List ℕ) → length xs ≡ length ys → xs ++ a ≡ ys ++ b → a ≡ b
same-after xs ys a b count same = sym (drop-append_seam xs a) ∙ (λ i. drop (count i) (same i)) ∙ drop-append_seam ys b

pub choice-net : (nets : ℕ) (values text : List ℕ) → HasChoice nets (length values) (values ++ (32 ∷ text)) → HasNet nets values text
choice-net nets values text has =
    let words = choice-words nets (length values) has.values has.src has.choice has.says in
    let after = has.src ++ (10 ∷ has.rest) in
    let front : values ≡ has.values = same-front values has.values (32 ∷ text) (32 ∷ after) (sym words.count_is) has.text_is in
    let rest : text ≡ after = ap (drop 1) (same-after values has.values (32 ∷ text) (32 ∷ after) (sym words.count_is) has.text_is) in
    record {
      number = words.number;
      rest = has.rest;
      starts = record { digits = has.src; number_is = words.number_is; text_is = rest };
      below = words.below;
      all = ap (list_all (λ byte. (byte == 48) || (byte == 49))) front ∙ words.all;
    }

-- equal texts have equal digits up to LF
digits-same : (xs ys a b : List ℕ) → list_all is_ascii_digit xs ≡ true → list_all is_ascii_digit ys ≡ true → xs ++ (10 ∷ a) ≡ ys ++ (10 ∷ b) → xs ≡ ys
digits-same [] [] a b first second same = refl
digits-same [] (y ∷ ys) a b first second same =
    let here : 10 ≡ y = ap (λ t. get_or t 0 0) same in
    let digit : is_ascii_digit 10 ≡ true = ap is_ascii_digit here ∙ (and_parts (is_ascii_digit y) (list_all is_ascii_digit ys) second).0 in
    absurd (true≢false (sym digit))
digits-same (x ∷ xs) [] a b first second same =
    let here : x ≡ 10 = ap (λ t. get_or t 0 0) same in
    let digit : is_ascii_digit 10 ≡ true = ap is_ascii_digit (sym here) ∙ (and_parts (is_ascii_digit x) (list_all is_ascii_digit xs) first).0 in
    absurd (true≢false (sym digit))
digits-same (x ∷ xs) (y ∷ ys) a b first second same =
    let here : x ≡ y = ap (λ t. get_or t 0 0) same in
    let one = and_parts (is_ascii_digit x) (list_all is_ascii_digit xs) first in
    let two = and_parts (is_ascii_digit y) (list_all is_ascii_digit ys) second in
    let rest : xs ≡ ys = digits-same xs ys a b one.1 two.1 (ap (drop 1) same) in
    λ i. here i ∷ rest i

-- a text starts with one number before LF
pub one-number : (text : List ℕ) (number other : ℕ) (rest more : List ℕ) → StartsWithNumber 10 text number rest → StartsWithNumber 10 text other more → number ≡ other
one-number text number other rest more starts again =
    let digits : starts.digits ≡ again.digits =
    digits-same starts.digits again.digits rest more (number-digits starts.digits number starts.number_is) (number-digits again.digits other again.number_is) (sym starts.text_is ∙ again.text_is) in
    let same : Some number ≡ Some other = sym starts.number_is ∙ ap number_of digits ∙ again.number_is in
    cc

-- A number at the front of a text, digit by digit.
use Rattle.std.proofs.Common.{◌≡◌, ℕ, suc, ◌+◌, ◌-◌, ◌*◌, ◌^◌, ◌<◌, ◌≤◌, true, false, ◌&&◌, ◌==◌, List, [], ◌∷◌, ◌++◌, length, take, drop, get_or, refl, sym, ap, ◌∙◌, inl, inr, arith, lit<}
use Rattle.std.specs.Prelude.{Some, None, nat_lt, nat_le}
use Rattle.std.specs.List.{list_all}
use Rattle.std.specs.Char.{is_ascii_digit}
use Rattle.std.proofs.Math.Nat.{pow-succ'}
use Rattle.std.proofs.Math.Seq.{split_at}
use Rattle.std.proofs.lemmas.Bool.{lt-ltb, le-leb, ltb-true, leb-true, and_parts, both_ways, cases_lt, cases_Bool}
use Rattle.std.proofs.lemmas.Bool.Decides.{nat_tests}
use Rattle.std.proofs.lemmas.List.{take_more, take_all, take_rest, length-take-le, length-append, get_or-take, get_or_append_left, get_or-append-add}
use Rattle.std.proofs.lemmas.List.Folds.{list_all-append, list_all_at}
use Rattle.std.proofs.lemmas.List.Sums.{fold_push}
use Rattle.text_lines.specs.Words.{digits_value, is_number, number_of}
use Rattle.text_lines.specs.Numbers.{HasDigits, Leads, StartsWithNumber}
use Rattle.text_lines.proofs.Numbers.{below_nine}

pub digits-none : (text : List ℕ) → HasDigits text 0 0
digits-none text = record { within = omega arith; few = omega arith; all = refl; number_is = refl; small = lit< tt }

-- a digit is little
digit-small : (byte : ℕ) → is_ascii_digit byte ≡ true → (48 ≤ byte) × (byte ≤ 57)
digit-small byte is = (grind (arith, nat_tests), grind (arith, nat_tests))

-- there is room for one digit more
pub digits-room : (text : List ℕ) (digits number : ℕ) → HasDigits text digits number → digits < 9 → number < 100000000
digits-room text digits number has few = below_nine number digits has.small few

-- one digit more
pub digits-more : (text : List ℕ) (digits number byte : ℕ) → HasDigits text digits number → digits < length text → digits < 9 → byte ≡ get_or text digits 0 → is_ascii_digit byte ≡ true
    → HasDigits text (digits + 1) (10 * number + (byte - 48))
digits-more text digits number byte has lt few is digit =
    let split : take (digits + 1) text ≡ take digits text ++ (byte ∷ []) = take_more text digits 0 lt ∙ ap (λ b. take digits text ++ (b ∷ [])) (sym is) in
    let small = digit-small byte digit in
    let low : byte ≤ 57 = small.1 in
    let before : number < 10 ^ digits = has.small in
    record {
      within = omega arith;
      few = omega arith;
      all = ap (list_all is_ascii_digit) split ∙ list_all-append is_ascii_digit (take digits text) (byte ∷ []) ∙ rw (has.all, digit) refl;
      number_is = ap (λ n. 10 * n + (byte - 48)) has.number_is ∙ sym (fold_push (λ n d. 10 * n + (d - 48)) 0 (take digits text) byte) ∙ ap digits_value (sym split);
      small = let next : digits + 1 ≡ suc digits = omega arith in rw (next, pow-succ' 10 digits) (omega arith);
    }

-- digits are a number
digits-number : (text : List ℕ) (digits number : ℕ) → HasDigits text digits number → 0 < digits → number_of (take digits text) ≡ Some number
unfolding number_of
digits-number text digits number has some =
    let count : length (take digits text) ≡ digits = length-take-le digits text has.within in
    rw (count, lt-ltb 0 digits some, le-leb digits 9 has.few, has.all) (ap (λ n. Some n) (sym has.number_is))

-- the whole of a word
pub leads-word : (word : List ℕ) (digits number : ℕ) → Leads word digits number → 0 < digits → digits ≡ length word → number_of word ≡ Some number
leads-word word digits number leads some all =
    let whole : take digits word ≡ word = take_all digits word (omega arith) in
    sym (ap number_of whole) ∙ digits-number word digits number leads.has some

-- if all are digits, so is each
digit_at : (word : List ℕ) (i : ℕ) → i < length word → list_all is_ascii_digit word ≡ true → is_ascii_digit (get_or word i 0) ≡ true
digit_at word i lt all =
    elim (cases_Bool (is_ascii_digit (get_or word i 0))) [
      | inl digit ↦ digit
      | inr other ↦ absurd (both_ways (list_all is_ascii_digit word) (list_all_at is_ascii_digit word i 0 lt other) all)
    ]

-- what a number is
record IsNumber (word : List ℕ) : Type 0 where
  some : 0 < length word
  few : length word ≤ 9
  all : list_all is_ascii_digit word ≡ true

number-parts : (word : List ℕ) → is_number word ≡ true → IsNumber word
number-parts word is =
    let parts = and_parts (nat_lt 0 (length word) && nat_le (length word) 9) (list_all is_ascii_digit word) is in
    let size = and_parts (nat_lt 0 (length word)) (nat_le (length word) 9) parts.0 in
    record { some = ltb-true 0 (length word) size.0; few = leb-true (length word) 9 size.1; all = parts.1 }

-- The digits before the first byte that is no digit are all digits at the front.
leads-as_many : (text word rest : List ℕ) (end digits number : ℕ) → text ≡ word ++ (end ∷ rest) → IsNumber word → is_ascii_digit end ≡ false → Leads text digits number → digits ≡ length word
leads-as_many text word rest end digits number is word_is other leads =
    let long : length text ≡ length word + suc (length rest) = ap length is ∙ length-append word (end ∷ rest) in
    elim (cases_lt digits (length word)) [
      | inl lt ↦
          let digit : is_ascii_digit (get_or word digits 0) ≡ true = digit_at word digits lt word_is.all in
          let same : get_or text digits 0 ≡ get_or word digits 0 = ap (λ t. get_or t digits 0) is ∙ get_or_append_left word (end ∷ rest) 0 digits lt in
          let few : digits < 9 = omega (arith, word_is.few) in
          absurd (both_ways (is_ascii_digit (get_or text digits 0)) (leads.ends (omega arith) few) (ap is_ascii_digit same ∙ digit))
      | inr le ↦ elim (cases_lt (length word) digits) [
        | inl lt ↦
            let count : length (take digits text) ≡ digits = length-take-le digits text leads.has.within in
            let place : length word + 0 ≡ length word = omega arith in
            let here : get_or text (length word) 0 ≡ end = ap (λ t. get_or t (length word) 0) is ∙ sym (ap (λ n. get_or (word ++ (end ∷ rest)) n 0) place) ∙ get_or-append-add word (end ∷ rest) 0 0 in
            let digit : is_ascii_digit (get_or (take digits text) (length word) 0) ≡ true = digit_at (take digits text) (length word) (omega arith) leads.has.all in
            absurd (both_ways (is_ascii_digit end) other (ap is_ascii_digit (sym (get_or-take digits text (length word) 0 lt ∙ here)) ∙ digit))
        | inr ge ↦ omega arith
      ]
    ]

-- a word that isn't digits alone, one to nine of them
pub leads-other : (word : List ℕ) (digits number : ℕ) → Leads word digits number → (nat_lt 0 digits && (digits == length word)) ≡ false → number_of word ≡ None
unfolding number_of
leads-other word digits number leads fails =
    elim (cases_Bool (is_number word)) [
      | inl is ↦
          let parts = number-parts word is in
          let all : digits ≡ length word = elim (cases_lt digits (length word)) [
            | inl lt ↦
                let few : digits < 9 = omega (arith, parts.few) in
                absurd (both_ways (is_ascii_digit (get_or word digits 0)) (leads.ends lt few) (digit_at word digits lt parts.all))
            | inr le ↦ omega (arith, leads.has.within)
          ] in
          absurd (grind (arith, nat_tests, parts.some))
      | inr other ↦ rw other refl
    ]

-- and a byte follows them
pub leads-before : (end : ℕ) (text : List ℕ) (digits number : ℕ) (rest : List ℕ) → Leads text digits number → 0 < digits → digits < length text → get_or text digits 0 ≡ end
    → rest ≡ take (length text - (digits + 1)) (drop (digits + 1) text) → StartsWithNumber end text number rest
leads-before end text digits number rest leads some lt here is =
    let next : suc digits ≡ digits + 1 = omega arith in
    let following : rest ≡ drop (digits + 1) text = is ∙ take_rest text (digits + 1) in
    record {
      digits = take digits text;
      number_is = digits-number text digits number leads.has some;
      text_is = split_at text digits 0 lt ∙ (λ i. take digits text ++ (here i ∷ drop (next i) text)) ∙ ap (λ more. take digits text ++ (end ∷ more)) (sym following);
    }

number-some : (word : List ℕ) (number : ℕ) → number_of word ≡ Some number → is_number word ≡ true
unfolding number_of
number-some word number is =
    elim (cases_Bool (is_number word)) [
      | inl is_one ↦ is_one
      | inr other ↦ absurd (cc (rw other at is))
    ]

-- if a number comes before that byte, it is found
pub leads-found : (end : ℕ) (text : List ℕ) (digits number other : ℕ) (rest : List ℕ) → Leads text digits number → is_ascii_digit end ≡ false → StartsWithNumber end text other rest
    → (0 < digits) × (digits < length text) × (get_or text digits 0 ≡ end)
leads-found end text digits number other rest leads no_digit starts =
    let word = starts.digits in
    let parts = number-parts word (number-some word other starts.number_is) in
    let many : digits ≡ length word = leads-as_many text word rest end digits number starts.text_is parts no_digit leads in
    let long : length text ≡ length word + suc (length rest) = ap length starts.text_is ∙ length-append word (end ∷ rest) in
    let place : length word + 0 ≡ digits = omega arith in (
      omega (arith, parts.some),
      omega arith,
      ap (λ t. get_or t digits 0) starts.text_is ∙ sym (ap (λ n. get_or (word ++ (end ∷ rest)) n 0) place) ∙ get_or-append-add word (end ∷ rest) 0 0,
    )

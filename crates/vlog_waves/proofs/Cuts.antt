-- The lines of variables and of their values.
use Rattle.std.proofs.Common.{◌≡◌, ◌∙◌, ℕ, zero, suc, ◌+◌, ◌-◌, ◌/◌, ◌%◌, ◌^◌, ◌<◌, ◌≤◌, Bool, true, false, List, [], ◌∷◌, ◌++◌, drop, get_or, length, map, refl, ap, ap₂, sym, append_assoc, arith}
use Rattle.std.specs.Prelude.{if◌then◌else◌}
use Rattle.std.proofs.Common.{drop_of_length-le}
use Rattle.std.proofs.lemmas.List.{drop_more}
use Rattle.text_lines.specs.Written.{text_of}
use Rattle.std.proofs.Math.Bool.{beq}
use Rattle.std.proofs.lemmas.Bool.{eq-eqb}
use Rattle.vlog_waves.specs.Variables.{Value, Variable}
use Rattle.vlog_waves.specs.Variables.Value.{one_bit, sixteen_bits}
use Rattle.vlog_waves.specs.Waves.{changed_lines, is_same, value_line, value_lines, variable_line, variable_lines, word_digits}
use Rattle.vlog_waves.proofs.Texts.{text_of-append, text_of-cons, text_of-none}

-- ---- variables

pub variables-append : (number : ℕ) (some more : List Variable) → variable_lines number (some ++ more) ≡ variable_lines number some ++ variable_lines (number + length some) more
variables-append number [] more = let same : number ≡ number + 0 = omega arith in ap (λ n. variable_lines n more) same
variables-append number (variable ∷ some) more =
    let same : suc number + length some ≡ number + suc (length some) = omega arith in
    ap (λ lines. variable_line number variable ∷ lines) (variables-append (suc number) some more ∙ ap (λ n. variable_lines (suc number) some ++ variable_lines n more) same)

-- ---- values

pub values-append : (number : ℕ) (some more : List Value) → value_lines number (some ++ more) ≡ value_lines number some ++ value_lines (number + length some) more
values-append number [] more = let same : number ≡ number + 0 = omega arith in ap (λ n. value_lines n more) same
values-append number (value ∷ some) more =
    let same : suc number + length some ≡ number + suc (length some) = omega arith in
    ap (λ lines. value_line number value ∷ lines) (values-append (suc number) some more ∙ ap (λ n. value_lines (suc number) some ++ value_lines n more) same)

-- the values from an index on: the first one, and those after it
pub values-cut : {A : Type 0} (value : A → Value) (number : ℕ) (list : List A) (place : ℕ) (d : A) → place < length list
    → text_of (value_lines (number + place) (map value (drop place list)))
    ≡ text_of (value_line (number + place) (value (get_or list place d)) ∷ []) ++ text_of (value_lines (number + (place + 1)) (map value (drop (place + 1) list)))
values-cut {A = A} value number list place d within =
    let same : suc (number + place) ≡ number + (place + 1) = omega arith in
    ap (λ (rest : List A). text_of (value_lines (number + place) (map value rest))) (drop_more list place d within)
    ∙ text_of-cons (value_line (number + place) (value (get_or list place d))) (value_lines (suc (number + place)) (map value (drop (place + 1) list)))
    ∙ ap (λ n. text_of (value_line (number + place) (value (get_or list place d)) ∷ []) ++ text_of (value_lines n (map value (drop (place + 1) list)))) same

-- no values are left
pub values-end : {A : Type 0} (value : A → Value) (number : ℕ) (list : List A) (place : ℕ) → length list ≤ place → text_of (value_lines (number + place) (map value (drop place list))) ≡ []
values-end {A = A} value number list place past =
    ap (λ (rest : List A). text_of (value_lines (number + place) (map value rest))) (drop_of_length-le list past) ∙ text_of-none

-- ---- changes

pub changed-append : (number : ℕ) (before after more_before more_after : List Value) → length before ≡ length after
    → changed_lines number (before ++ more_before) (after ++ more_after) ≡ changed_lines number before after ++ changed_lines (number + length before) more_before more_after
changed-append number [] [] more_before more_after alike = let same : number ≡ number + 0 = omega arith in ap (λ n. changed_lines n more_before more_after) same
changed-append number [] (new ∷ after) more_before more_after alike = let none : 0 ≡ suc (length after) = alike in absurd (omega (arith, none))
changed-append number (old ∷ before) [] more_before more_after alike = let none : suc (length before) ≡ 0 = alike in absurd (omega (arith, none))
changed-append number (old ∷ before) (new ∷ after) more_before more_after alike =
    let both : suc (length before) ≡ suc (length after) = alike in
    let fewer : length before ≡ length after = omega (arith, both) in
    let same : suc number + length before ≡ number + suc (length before) = omega arith in
    let first : List (List ℕ) = if is_same old new then [] else value_line number new ∷ [] in
    ap (λ (lines : List (List ℕ)). first ++ lines)
    (changed-append (suc number) before after more_before more_after fewer ∙ ap (λ n. changed_lines (suc number) before after ++ changed_lines n more_before more_after) same)
    ∙ sym (append_assoc first (changed_lines (suc number) before after) (changed_lines (number + suc (length before)) more_before more_after))

-- values that are the same give no lines
pub same-bit : (number : ℕ) (old new : Bool) → beq old new ≡ true → text_of (changed_lines number (one_bit old ∷ []) (one_bit new ∷ [])) ≡ []
same-bit number true true is = text_of-none
same-bit number true false is = absurd cc
same-bit number false true is = absurd cc
same-bit number false false is = text_of-none

pub same-word : (number old new : ℕ) → old ≡ new → text_of (changed_lines number (sixteen_bits old ∷ []) (sixteen_bits new ∷ [])) ≡ []
same-word number old new is =
    ap (λ (same : Bool). text_of ((if same then [] else value_line number (sixteen_bits new) ∷ []) ++ [])) (eq-eqb old new is) ∙ text_of-none

-- the changes from an index on: that of the first value, and those after it
pub changed-cut : {A : Type 0} (value : A → Value) (number : ℕ) (before after : List A) (place : ℕ) (d e : A) → place < length before → length before ≡ length after
    → text_of (changed_lines (number + place) (map value (drop place before)) (map value (drop place after)))
    ≡ text_of (changed_lines (number + place) (value (get_or before place d) ∷ []) (value (get_or after place e) ∷ []))
    ++ text_of (changed_lines (number + (place + 1)) (map value (drop (place + 1) before)) (map value (drop (place + 1) after)))
changed-cut {A = A} value number before after place d e within alike =
    let more_before : List Value = map value (drop (place + 1) before) in
    let more_after : List Value = map value (drop (place + 1) after) in
    let old : Value = value (get_or before place d) in
    let new : Value = value (get_or after place e) in
    let inside : place < length after = omega (arith, within, alike) in
    let same : number + place + 1 ≡ number + (place + 1) = omega arith in
    ap₂ (λ (xs ys : List A). text_of (changed_lines (number + place) (map value xs) (map value ys))) (drop_more before place d within) (drop_more after place e inside)
    ∙ ap text_of (changed-append (number + place) (old ∷ []) (new ∷ []) more_before more_after refl)
    ∙ text_of-append (changed_lines (number + place) (old ∷ []) (new ∷ [])) (changed_lines (number + place + 1) more_before more_after)
    ∙ ap (λ n. text_of (changed_lines (number + place) (old ∷ []) (new ∷ [])) ++ text_of (changed_lines n more_before more_after)) same

-- no changes are left
pub changed-end : {A : Type 0} (value : A → Value) (number : ℕ) (before after : List A) (place : ℕ) → length before ≤ place → text_of (changed_lines (number + place) (map value (drop place before)) (map value (drop place after))) ≡ []
changed-end {A = A} value number before after place past =
    ap (λ (rest : List A). text_of (changed_lines (number + place) (map value rest) (map value (drop place after)))) (drop_of_length-le before past) ∙ text_of-none

-- ---- words

-- the digits from an index on: the first one, and those after it
pub digits-cut : (word place : ℕ) → place < 16 → word_digits (16 - place) word ≡ (48 + word / 2 ^ (15 - place) % 2) ∷ word_digits (16 - (place + 1)) word
unfolding word_digits
digits-cut word place within =
    let more : 16 - place ≡ suc (15 - place) = omega arith in
    let same : 16 - (place + 1) ≡ 15 - place = omega arith in
    ap (λ n. word_digits n word) more ∙ ap (λ n. (48 + word / 2 ^ (15 - place) % 2) ∷ word_digits n word) (sym same)

-- no digits are left
pub digits-end : (word place : ℕ) → 16 ≤ place → word_digits (16 - place) word ≡ []
unfolding word_digits
digits-end word place past = let none : 16 - place ≡ 0 = omega arith in ap (λ n. word_digits n word) none

pub length-digits : (bits word : ℕ) → length (word_digits bits word) ≡ bits
unfolding word_digits
length-digits zero word = refl
length-digits (suc bits) word = ap suc (length-digits bits word)

-- ---- the variables of four kinds, one after another

variables-two : (number : ℕ) (a b : List Variable) → text_of (variable_lines number (a ++ b)) ≡ text_of (variable_lines number a) ++ text_of (variable_lines (number + length a) b)
variables-two number a b = ap text_of (variables-append number a b) ∙ text_of-append (variable_lines number a) (variable_lines (number + length a) b)

pub variables-four : (a b c d : List Variable) (second third fourth : ℕ) → second ≡ length a → third ≡ length a + length b → fourth ≡ length a + length b + length c
    → text_of (variable_lines 0 (a ++ (b ++ (c ++ d))))
    ≡ text_of (variable_lines 0 a) ++ (text_of (variable_lines second b) ++ (text_of (variable_lines third c) ++ text_of (variable_lines fourth d)))
variables-four a b c d second third fourth two three four =
    let first_is : 0 + length a ≡ second = omega (arith, two) in
    let second_is : second + length b ≡ third = omega (arith, two, three) in
    let third_is : third + length c ≡ fourth = omega (arith, three, four) in
    variables-two 0 a (b ++ (c ++ d))
    ∙ ap (λ n. text_of (variable_lines 0 a) ++ text_of (variable_lines n (b ++ (c ++ d)))) first_is
    ∙ ap (λ (text : List ℕ). text_of (variable_lines 0 a) ++ text)
    (variables-two second b (c ++ d)
    ∙ ap (λ n. text_of (variable_lines second b) ++ text_of (variable_lines n (c ++ d))) second_is
    ∙ ap (λ (text : List ℕ). text_of (variable_lines second b) ++ text)
    (variables-two third c d ∙ ap (λ n. text_of (variable_lines third c) ++ text_of (variable_lines n d)) third_is))

values-two : (number : ℕ) (a b : List Value) → text_of (value_lines number (a ++ b)) ≡ text_of (value_lines number a) ++ text_of (value_lines (number + length a) b)
values-two number a b = ap text_of (values-append number a b) ∙ text_of-append (value_lines number a) (value_lines (number + length a) b)

pub values-four : (a b c d : List Value) (second third fourth : ℕ) → second ≡ length a → third ≡ length a + length b → fourth ≡ length a + length b + length c
    → text_of (value_lines 0 (a ++ (b ++ (c ++ d)))) ≡ text_of (value_lines 0 a) ++ (text_of (value_lines second b) ++ (text_of (value_lines third c) ++ text_of (value_lines fourth d)))
values-four a b c d second third fourth two three four =
    let first_is : 0 + length a ≡ second = omega (arith, two) in
    let second_is : second + length b ≡ third = omega (arith, two, three) in
    let third_is : third + length c ≡ fourth = omega (arith, three, four) in
    values-two 0 a (b ++ (c ++ d))
    ∙ ap (λ n. text_of (value_lines 0 a) ++ text_of (value_lines n (b ++ (c ++ d)))) first_is
    ∙ ap (λ (text : List ℕ). text_of (value_lines 0 a) ++ text)
    (values-two second b (c ++ d)
    ∙ ap (λ n. text_of (value_lines second b) ++ text_of (value_lines n (c ++ d))) second_is
    ∙ ap (λ (text : List ℕ). text_of (value_lines second b) ++ text)
    (values-two third c d ∙ ap (λ n. text_of (value_lines third c) ++ text_of (value_lines n d)) third_is))

changed-two : (number : ℕ) (a b new_a new_b : List Value) → length a ≡ length new_a
    → text_of (changed_lines number (a ++ b) (new_a ++ new_b)) ≡ text_of (changed_lines number a new_a) ++ text_of (changed_lines (number + length a) b new_b)
changed-two number a b new_a new_b alike =
    ap text_of (changed-append number a new_a b new_b alike) ∙ text_of-append (changed_lines number a new_a) (changed_lines (number + length a) b new_b)

pub changed-four : (a b c d new_a new_b new_c new_d : List Value) (second third fourth : ℕ) → length a ≡ length new_a → length b ≡ length new_b → length c ≡ length new_c
    → second ≡ length a → third ≡ length a + length b → fourth ≡ length a + length b + length c
    → text_of (changed_lines 0 (a ++ (b ++ (c ++ d))) (new_a ++ (new_b ++ (new_c ++ new_d))))
    ≡ text_of (changed_lines 0 a new_a) ++ (text_of (changed_lines second b new_b) ++ (text_of (changed_lines third c new_c) ++ text_of (changed_lines fourth d new_d)))
changed-four a b c d new_a new_b new_c new_d second third fourth same_a same_b same_c two three four =
    let first_is : 0 + length a ≡ second = omega (arith, two) in
    let second_is : second + length b ≡ third = omega (arith, two, three) in
    let third_is : third + length c ≡ fourth = omega (arith, three, four) in
    changed-two 0 a (b ++ (c ++ d)) new_a (new_b ++ (new_c ++ new_d)) same_a
    ∙ ap (λ n. text_of (changed_lines 0 a new_a) ++ text_of (changed_lines n (b ++ (c ++ d)) (new_b ++ (new_c ++ new_d)))) first_is
    ∙ ap (λ (text : List ℕ). text_of (changed_lines 0 a new_a) ++ text)
    (changed-two second b (c ++ d) new_b (new_c ++ new_d) same_b
    ∙ ap (λ n. text_of (changed_lines second b new_b) ++ text_of (changed_lines n (c ++ d) (new_c ++ new_d))) second_is
    ∙ ap (λ (text : List ℕ). text_of (changed_lines second b new_b) ++ text)
    (changed-two third c d new_c new_d same_c
    ∙ ap (λ n. text_of (changed_lines third c new_c) ++ text_of (changed_lines n d new_d)) third_is))

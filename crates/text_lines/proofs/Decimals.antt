-- Decimal numbers as they are written, and read again.
use Rattle.std.proofs.Common.{◌≡◌, ℕ, ◌+◌, ◌-◌, ◌*◌, ◌%◌, ◌^◌, ◌<◌, ◌≤◌, true, List, [], length, ap, ◌∙◌, arith}
use Rattle.std.proofs.lemmas.Bool.{and_from, le-leb, lt-ltb}
use Rattle.std.proofs.lemmas.Fmt.{decimal_by_steps, decimal_nonempty, length-decimal-le}
use Rattle.std.proofs.lemmas.List.Elements.{All-cons, All-nil, All-push, All-weaker}
use Rattle.std.proofs.lemmas.List.Sums.{fold_push, list_all-from_AllPass}
use Rattle.std.specs.Char.{is_ascii_digit}
use Rattle.std.specs.Fmt.{decimal}
use Rattle.std.specs.Prelude.{All, Some}
use Rattle.text_lines.specs.declared.words.Separators.{Separators}
use Rattle.text_lines.specs.Words.{digits_value, is_number, number_of}
use Rattle.text_lines.proofs.Spaced.{IsWord, IsWord-high}

-- digits that write a number
record Writes (number : ℕ) (digits : List ℕ) : Type 0 where
  value : digits_value digits ≡ number
  are_digits : All (λ byte. (48 ≤ byte) × (byte ≤ 57)) digits

-- decimal digits, one more at a time
decimal-writes : (number : ℕ) → number < 2 ^ 64 → Writes number (decimal number)
decimal-writes = decimal_by_steps Writes
    (λ number small. record {
      value = omega arith;
      are_digits = All-cons (λ byte. (48 ≤ byte) × (byte ≤ 57)) (48 + number) [] (omega arith, omega arith) (All-nil (λ byte. (48 ≤ byte) × (byte ≤ 57)));
    })
    (λ number digits large before. record {
      value = fold_push (λ n digit. 10 * n + (digit - 48)) 0 digits (48 + number % 10) ∙ omega (arith, before.value);
      are_digits = All-push (λ byte. (48 ≤ byte) × (byte ≤ 57)) digits (48 + number % 10) before.are_digits (omega arith, omega arith);
    })

-- a decimal number is of digits alone
pub decimal-digits : (number : ℕ) → number < 2 ^ 64 → All (λ byte. (48 ≤ byte) × (byte ≤ 57)) (decimal number)
decimal-digits number small = (decimal-writes number small).are_digits

-- the value of the digits is the number
pub decimal-value : (number : ℕ) → number < 2 ^ 64 → digits_value (decimal number) ≡ number
decimal-value number small = (decimal-writes number small).value

-- a decimal number is a word
pub decimal-word : (s : Separators) (number : ℕ) → number < 2 ^ 64 → IsWord s (decimal number)
decimal-word s number small =
    let high = All-weaker (λ byte. (48 ≤ byte) × (byte ≤ 57)) (λ byte. 32 < byte) (λ byte digit. omega (arith, digit.0)) (decimal number) (decimal-digits number small) in
    IsWord-high s (decimal number) (decimal_nonempty number small) high

-- a decimal number has no byte below the space
pub decimal-plain : (number : ℕ) → number < 2 ^ 64 → All (λ byte. 32 ≤ byte) (decimal number)
decimal-plain number small = All-weaker (λ byte. (48 ≤ byte) × (byte ≤ 57)) (λ byte. 32 ≤ byte) (λ byte digit. omega (arith, digit.0)) (decimal number) (decimal-digits number small)

-- a number of nine digits at most is read as it was written
pub number_of-decimal : (number : ℕ) → number < 1000000000 → number_of (decimal number) ≡ Some number
unfolding number_of
number_of-decimal number small =
    let narrow : number < 2 ^ 64 = omega arith in
    let some : 0 < length (decimal number) = decimal_nonempty number narrow in
    let few : length (decimal number) ≤ 9 = length-decimal-le 9 number (omega arith) (omega arith) narrow in
    let digits = list_all-from_AllPass is_ascii_digit (decimal number) (All-weaker (λ byte. (48 ≤ byte) × (byte ≤ 57)) (λ byte. is_ascii_digit byte ≡ true) (λ byte digit. and_from _ _ (le-leb 48 byte digit.0) (le-leb byte 57 digit.1)) (decimal number) (decimal-digits number narrow)) in
    let is : is_number (decimal number) ≡ true = and_from _ _ (and_from _ _ (lt-ltb 0 (length (decimal number)) some) (le-leb (length (decimal number)) 9 few)) digits in
    rw is (ap (λ n. Some n) (decimal-value number narrow))

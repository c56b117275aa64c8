-- Every token has at least one byte, and lies within the text.
use Rattle.std.proofs.Common.{◌≡◌, ℕ, ◌<◌, ◌≤◌, ◌==◌, Bool, true, false, not, List, [], ◌∷◌, length, refl, arith, ◌&&◌, ◌||◌}
use Rattle.std.proofs.lemmas.Bool.Decides.{nat_tests}
use Rattle.std.proofs.lemmas.List.Sums.{prefix_len-le-length}
use Rattle.std.specs.Prelude.{if◌then◌else◌}
use Rattle.shared_lemmas.proofs.Tests.{second_true}
use Rattle.vlog_tokens.specs.Bytes.{byte_at, is_letter, is_digit, is_hex_digit, is_name_byte, is_bit_text, is_word_text, number_length}
use Rattle.vlog_tokens.specs.Fixed.{pair_of}
use Rattle.vlog_tokens.specs.Tokens.{name_length, digits_length, sign_length, front_length}
use Rattle.vlog_tokens.proofs.Places.{present}

-- a number of bytes at the front that are there
abbrev pub IsWithin : ℕ → List ℕ → Type 0
IsWithin n bytes = (0 < n) × (n ≤ length bytes)

pub name_within : (byte : ℕ) (bytes : List ℕ) → is_letter byte ≡ true → IsWithin (name_length (byte ∷ bytes)) (byte ∷ bytes)
name_within byte bytes letter =
    (rw letter (omega arith), prefix_len-le-length (λ byte. not (not (is_name_byte byte))) (byte ∷ bytes))

bit_nonzero : (byte : ℕ) → ((byte == 48) || (byte == 49)) ≡ true → 0 < byte
bit_nonzero byte passes = grind (arith, nat_tests)

hex_nonzero : (byte : ℕ) → is_hex_digit byte ≡ true → 0 < byte
hex_nonzero byte passes = grind (arith, nat_tests)

digit_nonzero : (byte : ℕ) → is_digit byte ≡ true → 0 < byte
digit_nonzero byte passes = grind (arith, nat_tests)

pub bit_within : (bytes : List ℕ) → is_bit_text bytes ≡ true → 4 ≤ length bytes
bit_within bytes passes =
    present bytes 3 (bit_nonzero (byte_at bytes 3) (second_true ((byte_at bytes 0 == 49) && (byte_at bytes 1 == 39) && (byte_at bytes 2 == 98)) ((byte_at bytes 3 == 48) || (byte_at bytes 3 == 49)) passes))

pub word_within : (bytes : List ℕ) → is_word_text bytes ≡ true → 8 ≤ length bytes
word_within bytes passes =
    present bytes 7 (hex_nonzero (byte_at bytes 7) (second_true ((byte_at bytes 0 == 49) && (byte_at bytes 1 == 54) && (byte_at bytes 2 == 39) && (byte_at bytes 3 == 104)
    && is_hex_digit (byte_at bytes 4) && is_hex_digit (byte_at bytes 5) && is_hex_digit (byte_at bytes 6)) (is_hex_digit (byte_at bytes 7)) passes))

number_case : (a b : Bool) (n : ℕ) → 0 < n → (a ≡ true → 1 < n) → (b ≡ true → 2 < n) → (0 < (if not a then 1 else if not b then 2 else 3)) × ((if not a then 1 else if not b then 2 else 3) ≤ n)
number_case true true n some one two = (omega arith, two refl)
number_case true false n some one two = (omega arith, one refl)
number_case false b n some one two = (omega arith, some)

pub number_within : (bytes : List ℕ) → 0 < length bytes → IsWithin (number_length bytes) bytes
number_within bytes some =
    number_case (is_digit (byte_at bytes 1)) (is_digit (byte_at bytes 2)) (length bytes) some
    (λ passes. present bytes 1 (digit_nonzero (byte_at bytes 1) passes))
    (λ passes. present bytes 2 (digit_nonzero (byte_at bytes 2) passes))

digits_case : (a b : Bool) (k n : ℕ) → (a ≡ true → 4 ≤ n) → (b ≡ true → 8 ≤ n) → (0 < k) × (k ≤ n) → (0 < (if a then 4 else if b then 8 else k)) × ((if a then 4 else if b then 8 else k) ≤ n)
digits_case true b k n four eight number = (omega arith, four refl)
digits_case false true k n four eight number = (omega arith, eight refl)
digits_case false false k n four eight number = number

pub digits_within : (bytes : List ℕ) → 0 < length bytes → IsWithin (digits_length bytes) bytes
unfolding digits_length
digits_within bytes some =
    digits_case (is_bit_text bytes) (is_word_text bytes) (number_length bytes) (length bytes) (bit_within bytes) (word_within bytes) (number_within bytes some)

pub sign_within : (bytes : List ℕ) → 0 < length bytes → IsWithin (sign_length bytes) bytes
unfolding sign_length pair_of
sign_within bytes some = grind (arith, nat_tests, present)

front_case : (a b : Bool) (i j k n : ℕ) → (a ≡ true → (0 < i) × (i ≤ n)) → (0 < j) × (j ≤ n) → (0 < k) × (k ≤ n) → (0 < (if a then i else if b then j else k)) × ((if a then i else if b then j else k) ≤ n)
front_case true b i j k n first second third = first refl
front_case false true i j k n first second third = second
front_case false false i j k n first second third = third

pub front_within : (bytes : List ℕ) → 0 < length bytes → IsWithin (front_length bytes) bytes
unfolding front_length
front_within [] some = absurd (omega arith)
front_within (byte ∷ bytes) some =
    front_case (is_letter byte) (is_digit byte) (name_length (byte ∷ bytes)) (digits_length (byte ∷ bytes)) (sign_length (byte ∷ bytes)) (length (byte ∷ bytes))
    (name_within byte bytes) (digits_within (byte ∷ bytes) some) (sign_within (byte ∷ bytes) some)

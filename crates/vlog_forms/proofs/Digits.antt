-- The tokens of written bits, words and numbers.
use Rattle.std.proofs.Common.{◌≡◌, ℕ, ◌<◌, ◌+◌, ◌*◌, ◌/◌, ◌%◌, ◌==◌, Bool, true, false, not, ◌&&◌, ◌||◌, List, [], ◌∷◌, take, refl, ap, ◌∙◌, arith}
use Rattle.std.proofs.lemmas.Bool.{ltb-true, and_left, and_right}
use Rattle.std.proofs.lemmas.Bool.Decides.{nat_tests}
use Rattle.std.specs.Prelude.{if◌then◌else◌, nat_lt}
use Rattle.vlog_tokens.specs.Bytes.{is_blank, is_letter, is_digit, digit_value, is_name_byte, byte_at, is_hex_digit, hex_value, is_bit_text, is_word_text, word_value, number_length, number_value}
use Rattle.vlog_tokens.specs.Tokens.{front_token, front_length, name_length, name_or_word, digits_token, digits_length, sign_token, sign_length}
use Rattle.vlog_tokens.specs.Tokens.{TokenValue as token}
use Rattle.vlog_forms.specs.Printed.{bit_text, word_text, decimal_text, hex_digit}
use Rattle.vlog_forms.proofs.Plain.{FrontIs, closes, no_name, no_quote}

pub bit-front : (bit : Bool) (rest : List ℕ) → FrontIs (bit_text bit) rest (token.bit bit)
unfolding front_token front_length digits_token digits_length
bit-front true rest = record { some = omega arith; unblank = refl; token = refl; length = refl }
bit-front false rest = record { some = omega arith; unblank = refl; token = refl; length = refl }

-- ---- words

hex-is : (k : ℕ) → k < 16 → is_hex_digit (hex_digit k) ≡ true
hex-is k small = grind (arith, nat_tests)

hex-back : (k : ℕ) → k < 16 → hex_value (hex_digit k) ≡ k
hex-back k small = grind (arith, nat_tests)

four : (a b c d : Bool) → a ≡ true → b ≡ true → c ≡ true → d ≡ true → (((a && b) && c) && d) ≡ true
four true true true true p q r s = refl
four false b c d p q r s = absurd cc
four true false c d p q r s = absurd cc
four true true false d p q r s = absurd cc
four true true true false p q r s = absurd cc

digits_sum : (w : ℕ) → w < 65536 → 256 * (16 * (w / 4096) + w / 256 % 16) + (16 * (w / 16 % 16) + w % 16) ≡ w
digits_sum w small = omega arith

high_digit : (w : ℕ) → w < 65536 → w / 4096 < 16
high_digit w small = omega arith

low_digit : (w : ℕ) → w % 16 < 16
low_digit w = omega arith

pub word_text-front : (w : ℕ) (rest : List ℕ) → w < 65536 → FrontIs (word_text w) rest (token.word w)
unfolding front_token front_length digits_token digits_length
word_text-front w rest small =
    let h3 : ℕ = w / 4096 in
    let h2 : ℕ = w / 256 % 16 in
    let h1 : ℕ = w / 16 % 16 in
    let h0 : ℕ = w % 16 in
    let s3 : h3 < 16 = high_digit w small in
    let s2 : h2 < 16 = low_digit (w / 256) in
    let s1 : h1 < 16 = low_digit (w / 16) in
    let s0 : h0 < 16 = low_digit w in
    let hex : (((is_hex_digit (hex_digit h3) && is_hex_digit (hex_digit h2)) && is_hex_digit (hex_digit h1)) && is_hex_digit (hex_digit h0)) ≡ true
    = four (is_hex_digit (hex_digit h3)) (is_hex_digit (hex_digit h2)) (is_hex_digit (hex_digit h1)) (is_hex_digit (hex_digit h0)) (hex-is h3 s3) (hex-is h2 s2) (hex-is h1 s1) (hex-is h0 s0) in
    let value : 256 * (16 * hex_value (hex_digit h3) + hex_value (hex_digit h2)) + (16 * hex_value (hex_digit h1) + hex_value (hex_digit h0)) ≡ w
    = ap (λ n. 256 * (16 * n + hex_value (hex_digit h2)) + (16 * hex_value (hex_digit h1) + hex_value (hex_digit h0))) (hex-back h3 s3)
    ∙ ap (λ n. 256 * (16 * h3 + n) + (16 * hex_value (hex_digit h1) + hex_value (hex_digit h0))) (hex-back h2 s2)
    ∙ ap (λ n. 256 * (16 * h3 + h2) + (16 * n + hex_value (hex_digit h0))) (hex-back h1 s1)
    ∙ ap (λ n. 256 * (16 * h3 + h2) + (16 * h1 + n)) (hex-back h0 s0)
    ∙ digits_sum w small in
    record {
      some = omega arith;
      unblank = refl;
      token = ap (λ b. if b then token.word (256 * (16 * hex_value (hex_digit h3) + hex_value (hex_digit h2)) + (16 * hex_value (hex_digit h1) + hex_value (hex_digit h0))) else token.number 16) hex
          ∙ ap token.word value;
      length = ap (λ b. if b then 8 else 2) hex;
    }

-- ---- numbers

digit-is : (k : ℕ) → k < 10 → is_digit (48 + k) ≡ true
digit-is k small = grind (arith, nat_tests)

digit-back : (k : ℕ) → k < 10 → digit_value (48 + k) ≡ k
digit-back k small = grind (arith, nat_tests)

digit_letter : (byte : ℕ) → is_digit byte ≡ true → is_letter byte ≡ false
digit_letter byte digit = grind (arith, nat_tests)

digit_unblank : (byte : ℕ) → is_digit byte ≡ true → is_blank byte ≡ false
digit_unblank byte digit = grind (arith, nat_tests)

name_digit : (byte : ℕ) → is_name_byte byte ≡ false → is_digit byte ≡ false
name_digit byte none = grind (arith, nat_tests)

name_six : (byte : ℕ) → is_name_byte byte ≡ false → (byte == 54) ≡ false
name_six byte none = grind (arith, nat_tests)

digit_quote : (byte : ℕ) → is_digit byte ≡ true → (byte == 39) ≡ false
digit_quote byte digit = grind (arith, nat_tests)

bit_apart : (a b c d : Bool) → b ≡ false → (((a && b) && c) && d) ≡ false
bit_apart true true c d none = absurd cc
bit_apart true false c d none = refl
bit_apart false b c d none = refl

word_apart : (a b c d e f g h : Bool) → (b && c) ≡ false → (((((((a && b) && c) && d) && e) && f) && g) && h) ≡ false
word_apart true true true d e f g h none = absurd cc
word_apart true true false d e f g h none = refl
word_apart true false c d e f g h none = refl
word_apart false b c d e f g h none = refl

-- bytes that begin with a digit, and neither with a bit nor with a word
number_is : (bytes : List ℕ) → is_digit (byte_at bytes 0) ≡ true → (byte_at bytes 1 == 39) ≡ false → ((byte_at bytes 1 == 54) && (byte_at bytes 2 == 39)) ≡ false
    → (front_token bytes ≡ token.number (number_value bytes)) × (front_length bytes ≡ number_length bytes)
unfolding front_token front_length digits_token digits_length
number_is bytes digit quote six =
    let bit : is_bit_text bytes ≡ false = bit_apart (byte_at bytes 0 == 49) (byte_at bytes 1 == 39) (byte_at bytes 2 == 98) ((byte_at bytes 3 == 48) || (byte_at bytes 3 == 49)) quote in
    let word : is_word_text bytes ≡ false = word_apart (byte_at bytes 0 == 49) (byte_at bytes 1 == 54) (byte_at bytes 2 == 39) (byte_at bytes 3 == 104)
    (is_hex_digit (byte_at bytes 4)) (is_hex_digit (byte_at bytes 5)) (is_hex_digit (byte_at bytes 6)) (is_hex_digit (byte_at bytes 7)) six in
    let letter : is_letter (byte_at bytes 0) ≡ false = digit_letter (byte_at bytes 0) digit in (
      ap (λ b. if b then name_or_word (take (name_length bytes) bytes) else if is_digit (byte_at bytes 0) then digits_token bytes else sign_token bytes) letter
          ∙ ap (λ b. if b then digits_token bytes else sign_token bytes) digit
          ∙ ap (λ b. if b then token.bit (byte_at bytes 3 == 49) else if is_word_text bytes then token.word (word_value bytes) else token.number (number_value bytes)) bit
          ∙ ap (λ b. if b then token.word (word_value bytes) else token.number (number_value bytes)) word,
      ap (λ b. if b then name_length bytes else if is_digit (byte_at bytes 0) then digits_length bytes else sign_length bytes) letter
          ∙ ap (λ b. if b then digits_length bytes else sign_length bytes) digit
          ∙ ap (λ b. if b then 4 else if is_word_text bytes then 8 else number_length bytes) bit
          ∙ ap (λ b. if b then 8 else number_length bytes) word,
    )

one_digit : (n : ℕ) (rest : List ℕ) → n < 10 → closes rest ≡ true → FrontIs ((48 + n) ∷ []) rest (token.number n)
one_digit n rest small shut =
    let b1 : ℕ = byte_at rest 0 in
    let digit = digit-is n small in
    let more : is_digit b1 ≡ false = name_digit b1 (no_name rest shut) in
    let is = number_is ((48 + n) ∷ rest) digit (no_quote rest shut) (and_left (b1 == 54) (byte_at rest 1 == 39) (name_six b1 (no_name rest shut))) in
    record {
      some = omega arith;
      unblank = digit_unblank (48 + n) digit;
      token = is.0 ∙ ap (λ b. token.number (if not b then digit_value (48 + n) else if not (is_digit (byte_at rest 1)) then 10 * digit_value (48 + n) + digit_value b1 else 10 * (10 * digit_value (48 + n) + digit_value b1) + digit_value (byte_at rest 1))) more
          ∙ ap token.number (digit-back n small);
      length = is.1 ∙ ap (λ b. if not b then 1 else if not (is_digit (byte_at rest 1)) then 2 else 3) more;
    }

two_digits : (a b : ℕ) (rest : List ℕ) → a < 10 → b < 10 → closes rest ≡ true → FrontIs ((48 + a) ∷ (48 + b) ∷ []) rest (token.number (10 * a + b))
two_digits a b rest small_a small_b shut =
    let b2 : ℕ = byte_at rest 0 in
    let first = digit-is a small_a in
    let second = digit-is b small_b in
    let more : is_digit b2 ≡ false = name_digit b2 (no_name rest shut) in
    let is = number_is ((48 + a) ∷ (48 + b) ∷ rest) first (digit_quote (48 + b) second) (and_right ((48 + b) == 54) (b2 == 39) (no_quote rest shut)) in
    record {
      some = omega arith;
      unblank = digit_unblank (48 + a) first;
      token = is.0
          ∙ ap (λ t. token.number (if not t then digit_value (48 + a) else if not (is_digit b2) then 10 * digit_value (48 + a) + digit_value (48 + b) else 10 * (10 * digit_value (48 + a) + digit_value (48 + b)) + digit_value b2)) second
          ∙ ap (λ t. token.number (if not t then 10 * digit_value (48 + a) + digit_value (48 + b) else 10 * (10 * digit_value (48 + a) + digit_value (48 + b)) + digit_value b2)) more
          ∙ ap (λ k. token.number (10 * k + digit_value (48 + b))) (digit-back a small_a)
          ∙ ap (λ k. token.number (10 * a + k)) (digit-back b small_b);
      length = is.1 ∙ ap (λ t. if not t then 1 else if not (is_digit b2) then 2 else 3) second ∙ ap (λ t. if not t then 2 else 3) more;
    }

three_digits : (a b d : ℕ) (rest : List ℕ) → a < 10 → b < 10 → d < 10 → FrontIs ((48 + a) ∷ (48 + b) ∷ (48 + d) ∷ []) rest (token.number (10 * (10 * a + b) + d))
three_digits a b d rest small_a small_b small_d =
    let first = digit-is a small_a in
    let second = digit-is b small_b in
    let third = digit-is d small_d in
    let is = number_is ((48 + a) ∷ (48 + b) ∷ (48 + d) ∷ rest) first (digit_quote (48 + b) second) (and_right ((48 + b) == 54) ((48 + d) == 39) (digit_quote (48 + d) third)) in
    record {
      some = omega arith;
      unblank = digit_unblank (48 + a) first;
      token = is.0
          ∙ ap (λ t. token.number (if not t then digit_value (48 + a) else if not (is_digit (48 + d)) then 10 * digit_value (48 + a) + digit_value (48 + b) else 10 * (10 * digit_value (48 + a) + digit_value (48 + b)) + digit_value (48 + d))) second
          ∙ ap (λ t. token.number (if not t then 10 * digit_value (48 + a) + digit_value (48 + b) else 10 * (10 * digit_value (48 + a) + digit_value (48 + b)) + digit_value (48 + d))) third
          ∙ ap (λ k. token.number (10 * (10 * k + digit_value (48 + b)) + digit_value (48 + d))) (digit-back a small_a)
          ∙ ap (λ k. token.number (10 * (10 * a + k) + digit_value (48 + d))) (digit-back b small_b)
          ∙ ap (λ k. token.number (10 * (10 * a + b) + k)) (digit-back d small_d);
      length = is.1 ∙ ap (λ t. if not t then 1 else if not (is_digit (48 + d)) then 2 else 3) second ∙ ap (λ t. if not t then 2 else 3) third;
    }

along : (n m : ℕ) (text rest : List ℕ) → n ≡ m → FrontIs text rest (token.number n) → FrontIs text rest (token.number m)
along n m text rest same front = record { some = front.some; unblank = front.unblank; token = front.token ∙ ap token.number same; length = front.length }

number_case : (a b : Bool) (n : ℕ) (rest : List ℕ) → nat_lt n 10 ≡ a → nat_lt n 100 ≡ b → n < 1000 → closes rest ≡ true
    → FrontIs (if a then (48 + n) ∷ [] else if b then (48 + n / 10) ∷ (48 + n % 10) ∷ [] else (48 + n / 100) ∷ (48 + n / 10 % 10) ∷ (48 + n % 10) ∷ []) rest (token.number n)
number_case true b n rest ten hundred small shut = one_digit n rest (ltb-true n 10 ten) shut
number_case false true n rest ten hundred small shut =
    let below : n < 100 = ltb-true n 100 hundred in
    let a : n / 10 < 10 = omega arith in
    let d : n % 10 < 10 = omega arith in
    along (10 * (n / 10) + n % 10) n _ rest (omega arith) (two_digits (n / 10) (n % 10) rest a d shut)
number_case false false n rest ten hundred small shut =
    let a : n / 100 < 10 = omega arith in
    let b : n / 10 % 10 < 10 = omega arith in
    let d : n % 10 < 10 = omega arith in
    along (10 * (10 * (n / 100) + n / 10 % 10) + n % 10) n _ rest (omega arith) (three_digits (n / 100) (n / 10 % 10) (n % 10) rest a b d)

pub number-front : (n : ℕ) (rest : List ℕ) → n < 1000 → closes rest ≡ true → FrontIs (decimal_text n) rest (token.number n)
number-front n rest small shut = number_case (nat_lt n 10) (nat_lt n 100) n rest refl refl small shut

-- At each place the longest token is taken.
use Rattle.std.proofs.Common.{◌≡◌, ◌≢◌, ◌==◌, ◌≤◌, ◌<◌, ◌+◌, ◌*◌, ◌&&◌, ◌||◌, ℕ, zero, suc, Bool, true, false, not, List, [], ◌∷◌, ◌++◌, Option, Some, None, cond, drop, length, take, refl, sym, subst, ap, ap₂, ◌∙◌, arith}
use Rattle.std.specs.Prelude.{codes, if◌then◌else◌}
use Rattle.std.specs.List.{list_all}
use Rattle.std.proofs.lemmas.Bool.{and_parts, eqb-true}
use Rattle.std.proofs.lemmas.Bool.Decides.{nat_tests}
use Rattle.std.proofs.lemmas.List.{get_or-take, length-take-le, take-append-drop}
use Rattle.vlog_tokens.specs.declared.fixed.Fixed.{Fixed}
use Rattle.vlog_tokens.specs.declared.fixed.Fixed.TheVariants as sign
use Rattle.vlog_tokens.specs.Bytes.{byte_at, digit_value, hex_value, is_bit_text, is_digit, is_hex_digit, is_letter, is_name_byte, is_word_text, number_length, number_value, word_value}
use Rattle.vlog_tokens.specs.Fixed.{fixed_text, pair_of, sign_of, word_of}
use Rattle.vlog_tokens.specs.Spellings.{AreAtMost, IsLongest, IsNumberText, IsSpelling, IsWordText}
use Rattle.vlog_tokens.specs.Tokens.{TokenValue, digits_length, digits_token, first_length, first_sign, front_length, front_token, name_length, name_or_word, sign_length, sign_token, word_or_name}
use Rattle.vlog_tokens.specs.Tokens.{TokenValue as token}
use Rattle.vlog_tokens.proofs.Lengths.{bit_within, word_within}
use Rattle.vlog_tokens.proofs.Spelled.{FixedSort, fixed-sort, pair-spelled, sign-spelled, word-spelled}
use Rattle.vlog_tokens.proofs.Spelled.FixedSort.{as_pair, as_sign, as_word}

-- ---- bytes

clash : (b : Bool) → b ≡ true → b ≡ false → ⊥
clash b passes fails = absurd cc

digit-plain : (byte : ℕ) → is_digit byte ≡ true → is_letter byte ≡ false
digit-plain byte digit = grind (arith, nat_tests)

take-4 : (bytes : List ℕ) → 4 ≤ length bytes → take 4 bytes ≡ byte_at bytes 0 ∷ byte_at bytes 1 ∷ byte_at bytes 2 ∷ byte_at bytes 3 ∷ []
take-4 [] long = absurd (omega arith)
take-4 (a ∷ []) long = absurd (omega arith)
take-4 (a ∷ b ∷ []) long = absurd (omega arith)
take-4 (a ∷ b ∷ c ∷ []) long = absurd (omega arith)
take-4 (a ∷ b ∷ c ∷ d ∷ bytes) long = refl

take-8 : (bytes : List ℕ) → 8 ≤ length bytes
    → take 8 bytes ≡ byte_at bytes 0 ∷ byte_at bytes 1 ∷ byte_at bytes 2 ∷ byte_at bytes 3 ∷ byte_at bytes 4 ∷ byte_at bytes 5 ∷ byte_at bytes 6 ∷ byte_at bytes 7 ∷ []
take-8 [] long = absurd (omega arith)
take-8 (a ∷ []) long = absurd (omega arith)
take-8 (a ∷ b ∷ []) long = absurd (omega arith)
take-8 (a ∷ b ∷ c ∷ []) long = absurd (omega arith)
take-8 (a ∷ b ∷ c ∷ d ∷ bytes) long = ap (λ more. a ∷ b ∷ c ∷ d ∷ more) (take-4 bytes (omega arith))

-- ---- what is taken is spelled

bit_byte : (byte : ℕ) → ((byte == 48) || (byte == 49)) ≡ true → byte ≡ (if byte == 49 then 49 else 48)
bit_byte byte passes = by (byte == 48) (byte == 49) refl refl passes
  where
    by : (p q : Bool) → (byte == 48) ≡ p → (byte == 49) ≡ q → (p || q) ≡ true → byte ≡ (if q then 49 else 48)
    by p true zero_is one_is passes = eqb-true byte 49 one_is
    by true false zero_is one_is passes = eqb-true byte 48 zero_is
    by false false zero_is one_is passes = absurd cc

bit-spelled : (bytes : List ℕ) → is_bit_text bytes ≡ true → IsSpelling (take 4 bytes) (token.bit (byte_at bytes 3 == 49))
bit-spelled bytes is =
    let last = and_parts ((byte_at bytes 0 == 49) && (byte_at bytes 1 == 39) && (byte_at bytes 2 == 98)) ((byte_at bytes 3 == 48) || (byte_at bytes 3 == 49)) is in
    let third = and_parts ((byte_at bytes 0 == 49) && (byte_at bytes 1 == 39)) (byte_at bytes 2 == 98) last.0 in
    let first = and_parts (byte_at bytes 0 == 49) (byte_at bytes 1 == 39) third.0 in
    take-4 bytes (bit_within bytes is)
    ∙ spelled (byte_at bytes 0) (byte_at bytes 1) (byte_at bytes 2) (byte_at bytes 3) (eqb-true (byte_at bytes 0) 49 first.0) (eqb-true (byte_at bytes 1) 39 first.1) (eqb-true (byte_at bytes 2) 98 third.1) (bit_byte (byte_at bytes 3) last.1)
  where
    spelled : (a b c d : ℕ) → a ≡ 49 → b ≡ 39 → c ≡ 98 → d ≡ (if d == 49 then 49 else 48) → a ∷ b ∷ c ∷ d ∷ [] ≡ codes "1'b" ++ (if d == 49 then 49 else 48) ∷ []
    spelled a b c d a_is b_is c_is d_is = rw (a_is, b_is, c_is) (ap (λ last. 49 ∷ 39 ∷ 98 ∷ last ∷ []) d_is)

all_four : (a b c d : ℕ) → is_hex_digit a ≡ true → is_hex_digit b ≡ true → is_hex_digit c ≡ true → is_hex_digit d ≡ true → list_all is_hex_digit (a ∷ b ∷ c ∷ d ∷ []) ≡ true
all_four a b c d a_is b_is c_is d_is = rw (a_is, b_is, c_is, d_is) refl

four_digits : (a b c d : ℕ) → 16 * (16 * (16 * (16 * 0 + a) + b) + c) + d ≡ 256 * (16 * a + b) + (16 * c + d)
four_digits a b c d = omega arith

eight : (a b c d e f g h : ℕ) → a ≡ 49 → b ≡ 54 → c ≡ 39 → d ≡ 104 → is_hex_digit e ≡ true → is_hex_digit f ≡ true → is_hex_digit g ≡ true → is_hex_digit h ≡ true
    → IsWordText (a ∷ b ∷ c ∷ d ∷ e ∷ f ∷ g ∷ h ∷ []) (256 * (16 * hex_value e + hex_value f) + (16 * hex_value g + hex_value h))
eight a b c d e f g h a_is b_is c_is d_is e_is f_is g_is h_is = record {
  long = refl;
  begins = rw (a_is, b_is, c_is, d_is) refl;
  digits = all_four e f g h e_is f_is g_is h_is;
  is = four_digits (hex_value e) (hex_value f) (hex_value g) (hex_value h);
}

wide-spelled : (bytes : List ℕ) → is_word_text bytes ≡ true → IsSpelling (take 8 bytes) (token.word (word_value bytes))
wide-spelled bytes is =
    let at : ℕ → ℕ = byte_at bytes in
    let a : Bool = at 0 == 49 in
    let b : Bool = a && (at 1 == 54) in
    let c : Bool = b && (at 2 == 39) in
    let d : Bool = c && (at 3 == 104) in
    let e : Bool = d && is_hex_digit (at 4) in
    let f : Bool = e && is_hex_digit (at 5) in
    let g : Bool = f && is_hex_digit (at 6) in
    let g_and = and_parts g (is_hex_digit (at 7)) is in
    let f_and = and_parts f (is_hex_digit (at 6)) g_and.0 in
    let e_and = and_parts e (is_hex_digit (at 5)) f_and.0 in
    let d_and = and_parts d (is_hex_digit (at 4)) e_and.0 in
    let c_and = and_parts c (at 3 == 104) d_and.0 in
    let b_and = and_parts b (at 2 == 39) c_and.0 in
    let a_and = and_parts a (at 1 == 54) b_and.0 in
    subst (λ text. IsWordText text (word_value bytes)) (sym (take-8 bytes (word_within bytes is)))
    (eight (at 0) (at 1) (at 2) (at 3) (at 4) (at 5) (at 6) (at 7) (eqb-true (at 0) 49 a_and.0) (eqb-true (at 1) 54 a_and.1) (eqb-true (at 2) 39 b_and.1) (eqb-true (at 3) 104 c_and.1) d_and.1 e_and.1 f_and.1 g_and.1)

number-spelled : (byte : ℕ) (rest : List ℕ) → is_digit byte ≡ true
    → IsSpelling (take (number_length (byte ∷ rest)) (byte ∷ rest)) (token.number (number_value (byte ∷ rest)))
number-spelled byte rest digit = by rest (is_digit (byte_at rest 0)) (is_digit (byte_at rest 1)) refl refl
  where
    by : (more : List ℕ) (p q : Bool) → is_digit (byte_at more 0) ≡ p → is_digit (byte_at more 1) ≡ q
        → IsNumberText (take (if not p then 1 else if not q then 2 else 3) (byte ∷ more))
        (if not p then digit_value byte else if not q then 10 * digit_value byte + digit_value (byte_at more 0) else 10 * (10 * digit_value byte + digit_value (byte_at more 0)) + digit_value (byte_at more 1))
    by more false q p_is q_is = record { some = omega arith; short = omega arith; digits = rw digit refl; is = omega arith }
    by [] true q p_is q_is = absurd cc
    by (next ∷ more) true false p_is q_is = record { some = omega arith; short = omega arith; digits = rw (digit, p_is) refl; is = omega arith }
    by (next ∷ []) true true p_is q_is = absurd cc
    by (next ∷ last ∷ more) true true p_is q_is = record { some = omega arith; short = omega arith; digits = rw (digit, p_is, q_is) refl; is = omega arith }

digits-spelled : (byte : ℕ) (rest : List ℕ) → is_digit byte ≡ true → IsSpelling (take (digits_length (byte ∷ rest)) (byte ∷ rest)) (digits_token (byte ∷ rest))
unfolding digits_length digits_token
digits-spelled byte rest digit = by (is_bit_text bytes) (is_word_text bytes) refl refl
  where
    bytes : List ℕ
    bytes = byte ∷ rest

    by : (p q : Bool) → is_bit_text bytes ≡ p → is_word_text bytes ≡ q
        → IsSpelling (take (if p then 4 else if q then 8 else number_length bytes) bytes) (if p then token.bit (byte_at bytes 3 == 49) else if q then token.word (word_value bytes) else token.number (number_value bytes))
    by true q p_is q_is = bit-spelled bytes p_is
    by false true p_is q_is = wide-spelled bytes q_is
    by false false p_is q_is = number-spelled byte rest digit

-- ---- the longest

-- bytes of names at the front are within the name there
all-within : (count : ℕ) (bytes : List ℕ) → list_all is_name_byte (take count bytes) ≡ true → count ≤ length bytes → count ≤ name_length bytes
all-within zero bytes all within = omega arith
all-within (suc count) [] all within = absurd (omega arith)
all-within (suc count) (byte ∷ bytes) all within =
    let parts = and_parts (is_name_byte byte) (list_all is_name_byte (take count bytes)) all in
    let more : count ≤ name_length bytes = all-within count bytes parts.1 (omega arith) in
    rw parts.0 (omega (arith, more))

-- the bytes of a name
name-all : (bytes : List ℕ) → list_all is_name_byte (take (name_length bytes) bytes) ≡ true
name-all [] = refl
name-all (byte ∷ bytes) = by (is_name_byte byte) refl (name-all bytes)
  where
    by : (b : Bool) → is_name_byte byte ≡ b → list_all is_name_byte (take (name_length bytes) bytes) ≡ true
        → list_all is_name_byte (take (cond (not (not b)) (1 + name_length bytes) 0) (byte ∷ bytes)) ≡ true
    by true is more =
        let one : 1 + name_length bytes ≡ suc (name_length bytes) = omega arith in
        ap (λ n. list_all is_name_byte (take n (byte ∷ bytes))) one ∙ rw is more
    by false is more = refl

-- a text of a word or a sign that spells a name is no reserved word
name-free : (text : List ℕ) → is_letter (byte_at text 0) ≡ true → word_of text ≡ None → (one : Fixed) → text ≢ fixed_text one
name-free text letter none one same = by (fixed-sort one)
  where
    by : FixedSort one → ⊥
    by (as_word begins goes_on found) = let there : word_of (fixed_text one) ≡ None = subst (λ other. word_of other ≡ None) same none in absurd cc
    by (as_pair a b is found plain digitless) = clash (is_letter a) (subst (λ other. is_letter (byte_at other 0) ≡ true) (same ∙ is) letter) plain
    by (as_sign a is found plain digitless) = clash (is_letter a) (subst (λ other. is_letter (byte_at other 0) ≡ true) (same ∙ is) letter) plain

name-spelled : (byte : ℕ) (rest : List ℕ) → is_letter byte ≡ true → IsSpelling (take (name_length (byte ∷ rest)) (byte ∷ rest)) (name_or_word (take (name_length (byte ∷ rest)) (byte ∷ rest)))
unfolding name_or_word
name-spelled byte rest letter = by (word_of text) refl
  where
    text : List ℕ
    text = take (name_length (byte ∷ rest)) (byte ∷ rest)

    begins : is_letter (byte_at text 0) ≡ true
    begins =
        let one : 1 + name_length rest ≡ suc (name_length rest) = omega arith in
        let long : name_length (byte ∷ rest) ≡ suc (name_length rest) = rw letter one in
        ap (λ n. is_letter (byte_at (take n (byte ∷ rest)) 0)) long ∙ letter

    by : (found : Option Fixed) → word_of text ≡ found → IsSpelling text (word_or_name found text)
    by (Some one) is = word-spelled text one is
    by None is = (refl, record { begins = begins; goes_on = name-all (byte ∷ rest); free = name-free text begins is })

-- nothing is spelled by no byte
none-spelled : (other : TokenValue) → IsSpelling [] other → ⊥
none-spelled (token.fixed one) spelled = by (fixed-sort one)
  where
    by : FixedSort one → ⊥
    by (as_word begins goes_on found) = clash (is_letter 0) (subst (λ text. is_letter (byte_at text 0) ≡ true) (sym spelled) begins) refl
    by (as_pair a b is found plain digitless) = let same : [] ≡ a ∷ b ∷ [] = spelled ∙ is in absurd cc
    by (as_sign a is found plain digitless) = let same : [] ≡ a ∷ [] = spelled ∙ is in absurd cc
none-spelled (token.name name) spelled = clash (is_letter 0) (spelled.1).begins refl
none-spelled (token.bit value) spelled = absurd cc
none-spelled (token.word value) spelled = let long = spelled.long in absurd (omega arith)
none-spelled (token.number value) spelled = let some = spelled.some in absurd (omega arith)
none-spelled token.stray spelled = spelled

-- a spelling that begins with a letter is one of letters, digits and underscores
spelled-name : (byte : ℕ) (more : List ℕ) (other : TokenValue) → is_letter byte ≡ true → IsSpelling (byte ∷ more) other → list_all is_name_byte (byte ∷ more) ≡ true
spelled-name byte more (token.fixed one) letter spelled = by (fixed-sort one)
  where
    by : FixedSort one → list_all is_name_byte (byte ∷ more) ≡ true
    by (as_word begins goes_on found) = subst (λ text. list_all is_name_byte text ≡ true) (sym spelled) goes_on
    by (as_pair a b is found plain digitless) = absurd (clash (is_letter a) (subst (λ text. is_letter (byte_at text 0) ≡ true) (spelled ∙ is) letter) plain)
    by (as_sign a is found plain digitless) = absurd (clash (is_letter a) (subst (λ text. is_letter (byte_at text 0) ≡ true) (spelled ∙ is) letter) plain)
spelled-name byte more (token.name name) letter spelled = (spelled.1).goes_on
spelled-name byte more (token.bit value) letter spelled = absurd (clash (is_letter 49) (subst (λ text. is_letter (byte_at text 0) ≡ true) spelled letter) refl)
spelled-name byte more (token.word value) letter spelled = absurd (clash (is_letter 49) (subst (λ text. is_letter (byte_at text 0) ≡ true) spelled.begins letter) refl)
spelled-name byte more (token.number value) letter spelled =
    absurd (clash (is_letter byte) letter (digit-plain byte (and_parts (is_digit byte) (list_all is_digit more) spelled.digits).0))
spelled-name byte more token.stray letter spelled = absurd spelled

letter-most : (byte : ℕ) (rest : List ℕ) → is_letter byte ≡ true → AreAtMost (byte ∷ rest) (name_length (byte ∷ rest))
letter-most byte rest letter zero other within spelled = omega arith
letter-most byte rest letter (suc count) other within spelled =
    all-within (suc count) (byte ∷ rest) (spelled-name byte (take count rest) other letter spelled) within

-- a spelling that begins with neither is a sign
fixed-letterless : (byte : ℕ) (more : List ℕ) (one : Fixed) → is_letter byte ≡ false → is_digit byte ≡ true → byte ∷ more ≡ fixed_text one → ⊥
fixed-letterless byte more one plain digit spelled = by (fixed-sort one)
  where
    by : FixedSort one → ⊥
    by (as_word begins goes_on found) = clash (is_letter byte) (subst (λ text. is_letter (byte_at text 0) ≡ true) (sym spelled) begins) plain
    by (as_pair a b is found letterless digitless) = clash (is_digit a) (subst (λ text. is_digit (byte_at text 0) ≡ true) (spelled ∙ is) digit) digitless
    by (as_sign a is found letterless digitless) = clash (is_digit a) (subst (λ text. is_digit (byte_at text 0) ≡ true) (spelled ∙ is) digit) digitless

-- ---- numbers, words and bits

bit_long : (value : Bool) (more : List ℕ) → digits_length (codes "1'b" ++ (if value then 49 else 48) ∷ more) ≡ 4
unfolding digits_length
bit_long true more = refl
bit_long false more = refl

word_long : (digits more : List ℕ) → length digits ≡ 4 → list_all is_hex_digit digits ≡ true → digits_length (codes "16'h" ++ digits ++ more) ≡ 8
unfolding digits_length
word_long [] more long all = absurd (omega arith)
word_long (a ∷ []) more long all = absurd (omega arith)
word_long (a ∷ b ∷ []) more long all = absurd (omega arith)
word_long (a ∷ b ∷ c ∷ []) more long all = absurd (omega arith)
word_long (a ∷ b ∷ c ∷ d ∷ []) more long all =
    let first = and_parts (is_hex_digit a) (list_all is_hex_digit (b ∷ c ∷ d ∷ [])) all in
    let second = and_parts (is_hex_digit b) (list_all is_hex_digit (c ∷ d ∷ [])) first.1 in
    let third = and_parts (is_hex_digit c) (list_all is_hex_digit (d ∷ [])) second.1 in
    let fourth = and_parts (is_hex_digit d) true third.1 in
    rw (first.0, second.0, third.0, fourth.0) refl
word_long (a ∷ b ∷ c ∷ d ∷ e ∷ digits) more long all = absurd (omega arith)

number_long : (count : ℕ) (bytes : List ℕ) → count ≤ 3 → count ≤ length bytes → list_all is_digit (take count bytes) ≡ true → count ≤ number_length bytes
number_long zero bytes short within all = omega arith
number_long (suc count) [] short within all = absurd (omega arith)
number_long (suc count) (a ∷ rest) short within all = by count rest short (omega arith) (and_parts (is_digit a) (list_all is_digit (take count rest)) all).1 (is_digit (byte_at rest 0)) (is_digit (byte_at rest 1)) refl refl
  where
    by : (n : ℕ) (more : List ℕ) → suc n ≤ 3 → n ≤ length more → list_all is_digit (take n more) ≡ true → (p q : Bool) → is_digit (byte_at more 0) ≡ p → is_digit (byte_at more 1) ≡ q
        → suc n ≤ (if not p then 1 else if not q then 2 else 3)
    by zero more short within all p q p_is q_is = some p q
      where
        some : (p q : Bool) → 1 ≤ (if not p then 1 else if not q then 2 else 3)
        some false q = omega arith
        some true false = omega arith
        some true true = omega arith
    by (suc n) [] short within all p q p_is q_is = absurd (omega arith)
    by (suc n) (b ∷ more) short within all false q p_is q_is = absurd (clash (is_digit b) (and_parts (is_digit b) (list_all is_digit (take n more)) all).0 p_is)
    by (suc zero) (b ∷ more) short within all true false p_is q_is = omega arith
    by (suc zero) (b ∷ more) short within all true true p_is q_is = omega arith
    by (suc (suc n)) (b ∷ []) short within all true q p_is q_is = absurd (omega arith)
    by (suc (suc n)) (b ∷ c ∷ more) short within all true false p_is q_is =
        let after = (and_parts (is_digit b) (list_all is_digit (take (suc n) (c ∷ more))) all).1 in
        absurd (clash (is_digit c) (and_parts (is_digit c) (list_all is_digit (take n more)) after).0 q_is)
    by (suc (suc n)) (b ∷ c ∷ more) short within all true true p_is q_is = omega arith

digits_long : (count : ℕ) (bytes : List ℕ) → count ≤ 3 → count ≤ number_length bytes → count ≤ digits_length bytes
unfolding digits_length
digits_long count bytes short long = by (is_bit_text bytes) (is_word_text bytes)
  where
    by : (p q : Bool) → count ≤ (if p then 4 else if q then 8 else number_length bytes)
    by true q = omega arith
    by false true = omega arith
    by false false = long

digits-most : (byte : ℕ) (rest : List ℕ) → is_letter byte ≡ false → is_digit byte ≡ true → AreAtMost (byte ∷ rest) (digits_length (byte ∷ rest))
digits-most byte rest plain digit zero other within spelled = omega arith
digits-most byte rest plain digit (suc count) other within spelled = by other spelled
  where
    bytes : List ℕ
    bytes = byte ∷ rest

    text : List ℕ
    text = take (suc count) bytes

    whole : text ++ drop (suc count) bytes ≡ bytes
    whole = take-append-drop (suc count) bytes

    long : length text ≡ suc count
    long = length-take-le (suc count) bytes within

    by : (one : TokenValue) → IsSpelling text one → suc count ≤ digits_length bytes
    by (token.fixed one) is = absurd (fixed-letterless byte (take count rest) one plain digit is)
    by (token.name name) is = absurd (clash (is_letter byte) (is.1).begins plain)
    by (token.bit value) is =
        let four : suc count ≡ 4 = sym long ∙ ap (λ list. length list) is in
        let there : digits_length bytes ≡ 4 = subst (λ list. digits_length list ≡ 4) (ap (λ list. list ++ drop (suc count) bytes) (sym is) ∙ whole) (bit_long value (drop (suc count) bytes)) in
        omega (arith, four, there)
    by (token.word value) is =
        let parts : codes "16'h" ++ drop 4 text ≡ text = ap (λ list. list ++ drop 4 text) (sym is.begins) ∙ take-append-drop 4 text in
        let eight_long : length text ≡ 8 = is.long in
        let four : length (drop 4 text) ≡ 4 = omega (arith, ap (λ list. length list) parts, eight_long) in
        let there : digits_length bytes ≡ 8 = subst (λ list. digits_length list ≡ 8) (ap (λ list. list ++ drop (suc count) bytes) parts ∙ whole) (word_long (drop 4 text) (drop (suc count) bytes) four is.digits) in
        omega (arith, long, eight_long, there)
    by (token.number value) is =
        let short : suc count ≤ 3 = omega (arith, long, is.short) in
        digits_long (suc count) bytes short (number_long (suc count) bytes short within is.digits)
    by token.stray is = absurd is

-- ---- signs

-- how long the longest sign there is
abbrev sign_most : Option Fixed → Option Fixed → ℕ
sign_most (Some pair) single = 2
sign_most None (Some single) = 1
sign_most None None = 0

one_most : (pair : Option Fixed) (one : Fixed) → 1 ≤ sign_most pair (Some one)
one_most (Some pair) one = omega arith
one_most None one = omega arith

signs-most : (byte : ℕ) (rest : List ℕ) → is_letter byte ≡ false → is_digit byte ≡ false → AreAtMost (byte ∷ rest) (sign_most (pair_of byte (byte_at rest 0)) (sign_of byte))
signs-most byte rest plain digitless zero other within spelled = omega arith
signs-most byte rest plain digitless (suc count) other within spelled = by other spelled
  where
    text : List ℕ
    text = byte ∷ take count rest

    most : ℕ
    most = sign_most (pair_of byte (byte_at rest 0)) (sign_of byte)

    long : length text ≡ suc count
    long = length-take-le (suc count) (byte ∷ rest) within

    fixed : (one : Fixed) → text ≡ fixed_text one → FixedSort one → suc count ≤ most
    fixed one is (as_word begins goes_on found) = absurd (clash (is_letter byte) (subst (λ list. is_letter (byte_at list 0) ≡ true) (sym is) begins) plain)
    fixed one is (as_sign a signed found a_plain a_digitless) =
        let here : byte ≡ a = ap (λ list. byte_at list 0) (is ∙ signed) in
        let one_long : suc count ≡ 1 = sym long ∙ ap (λ list. length list) (is ∙ signed) in
        let some : sign_of byte ≡ Some one = ap sign_of here ∙ found in
        subst (λ n. n ≤ most) (sym one_long) (subst (λ single. 1 ≤ sign_most (pair_of byte (byte_at rest 0)) single) (sym some) (one_most (pair_of byte (byte_at rest 0)) one))
    fixed one is (as_pair a b paired found a_plain a_digitless) =
        let two_long : suc count ≡ 2 = sym long ∙ ap (λ list. length list) (is ∙ paired) in
        let both : text ≡ a ∷ b ∷ [] = is ∙ paired in
        let next : byte_at (take count rest) 0 ≡ b = ap (λ list. byte_at list 1) both in
        let after : byte_at (take count rest) 0 ≡ byte_at rest 0 = get_or-take count rest 0 0 (omega (arith, two_long)) in
        let some : pair_of byte (byte_at rest 0) ≡ Some one = ap₂ pair_of (ap (λ list. byte_at list 0) both) (sym after ∙ next) ∙ found in
        subst (λ n. n ≤ most) (sym two_long) (subst (λ pair. 2 ≤ sign_most pair (sign_of byte)) (sym some) (omega arith))

    by : (one : TokenValue) → IsSpelling text one → suc count ≤ most
    by (token.fixed one) is = fixed one is (fixed-sort one)
    by (token.name name) is = absurd (clash (is_letter byte) (is.1).begins plain)
    by (token.bit value) is = absurd (clash (is_digit byte) (subst (λ b. is_digit b ≡ true) (sym (ap (λ list. byte_at list 0) is)) refl) digitless)
    by (token.word value) is = absurd (clash (is_digit byte) (subst (λ b. is_digit b ≡ true) (sym (ap (λ list. byte_at list 0) is.begins)) refl) digitless)
    by (token.number value) is = absurd (clash (is_digit byte) (and_parts (is_digit byte) (list_all is_digit (take count rest)) is.digits).0 digitless)
    by token.stray is = absurd is

-- ---- the token at the front

both : (bytes : List ℕ) (one : TokenValue) (count : ℕ) → IsSpelling (take count bytes) one → AreAtMost bytes count → IsLongest bytes one count
both bytes (token.fixed one) count is most = (is, most)
both bytes (token.name name) count is most = (is, most)
both bytes (token.bit value) count is most = (is, most)
both bytes (token.word value) count is most = (is, most)
both bytes (token.number value) count is most = (is, most)
both bytes token.stray count is most = absurd is

two-bytes : (byte : ℕ) (rest : List ℕ) (one : Fixed) → pair_of byte (byte_at rest 0) ≡ Some one → take 2 (byte ∷ rest) ≡ fixed_text one
unfolding pair_of
two-bytes byte [] one found = absurd (none (byte == 60) (byte == 62) found)
  where
    none : (p q : Bool) → (if p && false then Some sign.LessEquals else if p && false then Some sign.ShiftLeft else if q && false then Some sign.ShiftRight else None) ≡ Some one → ⊥
    none true true is = absurd cc
    none true false is = absurd cc
    none false true is = absurd cc
    none false false is = absurd cc
two-bytes byte (next ∷ rest) one found = pair-spelled byte next one found

sign-longest : (byte : ℕ) (rest : List ℕ) → is_letter byte ≡ false → is_digit byte ≡ false → IsLongest (byte ∷ rest) (sign_token (byte ∷ rest)) (sign_length (byte ∷ rest))
unfolding sign_token sign_length
sign-longest byte rest plain digitless = by (pair_of byte (byte_at rest 0)) (sign_of byte) refl refl (signs-most byte rest plain digitless)
  where
    by : (pair single : Option Fixed) → pair_of byte (byte_at rest 0) ≡ pair → sign_of byte ≡ single → AreAtMost (byte ∷ rest) (sign_most pair single)
        → IsLongest (byte ∷ rest) (first_sign pair single) (first_length pair)
    by (Some one) single pair_is single_is most = both (byte ∷ rest) (token.fixed one) 2 (two-bytes byte rest one pair_is) most
    by None (Some one) pair_is single_is most = both (byte ∷ rest) (token.fixed one) 1 (sign-spelled byte one single_is) most
    by None None pair_is single_is most = (refl, most)

-- the token at the front is the longest that begins there
pub front-longest : (bytes : List ℕ) → 0 < length bytes → IsLongest bytes (front_token bytes) (front_length bytes)
unfolding front_token front_length
front-longest [] some = absurd (omega arith)
front-longest (byte ∷ rest) some = by (is_letter byte) (is_digit byte) refl refl
  where
    bytes : List ℕ
    bytes = byte ∷ rest

    by : (p q : Bool) → is_letter byte ≡ p → is_digit byte ≡ q
        → IsLongest bytes (if p then name_or_word (take (name_length bytes) bytes) else if q then digits_token bytes else sign_token bytes) (if p then name_length bytes else if q then digits_length bytes else sign_length bytes)
    by true q letter digit = both bytes (name_or_word (take (name_length bytes) bytes)) (name_length bytes) (name-spelled byte rest letter) (letter-most byte rest letter)
    by false true letter digit = both bytes (digits_token bytes) (digits_length bytes) (digits-spelled byte rest digit) (digits-most byte rest letter digit)
    by false false letter digit = sign-longest byte rest letter digit

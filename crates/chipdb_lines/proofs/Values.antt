-- The number that values write, their first bit the lowest.
use Rattle.std.proofs.Common.{◌≡◌, ℕ, zero, suc, ◌+◌, ◌-◌, ◌*◌, ◌/◌, ◌%◌, ◌^◌, ◌<◌, ◌≤◌, Bool, true, false, ◌||◌, eqb, List, [], ◌∷◌, length, length-drop, drop, get_or, refl, sym, ap, ◌∙◌, inl, inr, arith, lit<, lit≤, true≢false}
use Rattle.std.proofs.lemmas.Bool.{and_parts, cases_Bool, cases_eq}
use Rattle.std.proofs.Math.Nat.{pow-succ', pow-le-pow_right}
use Rattle.std.proofs.Math.Seq.{drop-cons, drop-length}
use Rattle.std.specs.Prelude.{◌==◌, ◌≢◌}
use Rattle.std.specs.List.{list_all}
use Rattle.std.proofs.lemmas.Bool.Decides.{nat_tests}
use Rattle.bit_plane.specs.BitList.{word_bits}
use Rattle.chipdb_lines.specs.Kept.{WritesValues}

-- one bit more, as the lowest
pub word_bits-more : (count number bit : ℕ) → bit < 2 → word_bits (suc count) (2 * number + bit) ≡ eqb bit 1 ∷ word_bits count number
unfolding word_bits
word_bits-more count number bit small =
    let low : (2 * number + bit) % 2 ≡ bit = omega arith in
    let high : (2 * number + bit) / 2 ≡ number = omega arith in
    rw (low, high) refl

-- a byte that is neither
no_value : (byte : ℕ) → byte ≢ 48 → byte ≢ 49 → ((byte == 48) || (byte == 49)) ≡ true → ⊥
no_value byte other another is = grind (arith, nat_tests)

-- each element passes if all do
pub list_all-at : {A : Type 0} (test : A → Bool) (xs : List A) (i : ℕ) (d : A) → list_all test xs ≡ true → i < length xs → test (get_or xs i d) ≡ true
list_all-at test [] i d all lt = absurd (omega arith)
list_all-at test (x ∷ xs) zero d all lt = (and_parts (test x) (list_all test xs) all).0
list_all-at test (x ∷ xs) (suc i) d all lt = list_all-at test xs i d (and_parts (test x) (list_all test xs) all).1 (omega arith)

-- a byte that is `0` or `1`
pub value-byte : (byte : ℕ) → ((byte == 48) || (byte == 49)) ≡ true → (byte - 48 < 2) × (48 ≤ byte) × (eqb (byte - 48) 1 ≡ (byte == 49))
value-byte byte is =
    elim (cases_eq byte 48) [
      | inl zero_is ↦ rw zero_is (lit< tt, lit≤ tt, refl)
      | inr other ↦
          elim (cases_eq byte 49) [
            | inl one_is ↦ rw one_is (lit< tt, lit≤ tt, refl)
            | inr another ↦ absurd (no_value byte other another is)
          ]
    ]

-- a byte that is neither keeps a word from being values
pub no-values : (word : List ℕ) (i : ℕ) → i < length word → ((get_or word i 0 == 48) || (get_or word i 0 == 49)) ≡ false → list_all (λ byte. (byte == 48) || (byte == 49)) word ≡ false
no-values word i lt is =
    elim (cases_Bool (list_all (λ byte. (byte == 48) || (byte == 49)) word)) [
      | inl all ↦ absurd (true≢false (sym (list_all-at (λ byte. (byte == 48) || (byte == 49)) word i 0 all lt) ∙ is))
      | inr none ↦ none
    ]

-- no byte is written
pub Writes-nothing : (word : List ℕ) → WritesValues (drop (length word) word) 0
unfolding word_bits
Writes-nothing word =
    let none : WritesValues [] 0 = record { all = refl; bits = refl; small = lit< tt } in
    rw (drop-length word) none

-- one byte more is written
Writes-byte : (byte : ℕ) (bytes : List ℕ) (values : ℕ) → WritesValues bytes values → ((byte == 48) || (byte == 49)) ≡ true → WritesValues (byte ∷ bytes) (2 * values + (byte - 48))
Writes-byte byte bytes values written is =
    let digit = value-byte byte is in
    let count = length bytes in
    let small : values < 2 ^ count = written.small in
    let digit_small : byte - 48 < 2 = digit.0 in
    record {
      all = rw is written.all;
      bits = word_bits-more count values (byte - 48) digit.0 ∙ ap (λ b. b ∷ word_bits count values) digit.2 ∙ ap (λ bs. (byte == 49) ∷ bs) written.bits;
      small = rw (pow-succ' 2 count) (omega arith);
    }

-- the byte before those from a place on is written
pub Writes-more : (word : List ℕ) (left values : ℕ) → WritesValues (drop left word) values → 0 < left → left ≤ length word → ((get_or word (left - 1) 0 == 48) || (get_or word (left - 1) 0 == 49)) ≡ true
    → WritesValues (drop (left - 1) word) (2 * values + (get_or word (left - 1) 0 - 48))
Writes-more word left values written some within is =
    let byte = get_or word (left - 1) 0 in
    let next : suc (left - 1) ≡ left = omega arith in
    let split : drop (left - 1) word ≡ byte ∷ drop left word = rw next at (drop-cons word (left - 1) 0 (omega arith)) in
    rw split (Writes-byte byte (drop left word) values written is)

-- there is room for one byte more
pub Writes-room : (word : List ℕ) (left values : ℕ) → WritesValues (drop left word) values → 0 < left → left ≤ length word → length word ≤ 64 → 2 * values + 1 < 2 ^ 64
Writes-room word left values written some within few =
    let count = length (drop left word) in
    let small : values < 2 ^ count = written.small in
    let more : count ≤ 63 = omega (arith, length-drop left word) in
    let grown : 2 ^ count ≤ 2 ^ 63 = pow-le-pow_right (lit< tt) more in
    omega arith

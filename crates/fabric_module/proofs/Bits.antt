-- Bits as lists, and as the bits of numbers.
use Rattle.std.proofs.Common.{◌≡◌, ℕ, zero, suc, ◌+◌, ◌-◌, ◌*◌, ◌/◌, ◌%◌, ◌^◌, ◌<◌, ◌≤◌, Bool, true, false, List, [], ◌∷◌, length, get_or, min, max, refl, sym, ap, ◌∙◌, subst, arith, inl, inr, bit_and}
use Rattle.std.specs.Prelude.{◌==◌, if◌then◌else◌}
use Rattle.std.specs.Int.{bit_at}
use Rattle.std.proofs.lemmas.Bool.{cases_lt}
use Rattle.std.proofs.lemmas.List.{get_or_past}
use Rattle.std.proofs.lemmas.Nat.Bits.{bit_at_lowest, bit_at-suc, bit_at-zero, bit_at_and, bit_at_or, bit_at_not, same_from_bits}
use Rattle.bit_plane.specs.BitList.{bit_value, word_of, word_bits}
use Rattle.bit_plane.specs.Rows.{row_from}
use Rattle.bit_plane.proofs.Made.{length-row_from, get_or-row_from}
use Rattle.bit_plane.proofs.Words.{get_or-word_bits, test-bit_value, word_of-lt, bit_value-le}
use Rattle.vlog_semantics.specs.Values.{bit_of, number_of, majority}
use Rattle.vlog_semantics.specs.Run.{masked}
use Rattle.fabric_model.specs.Values.{majority as two_of}
use Rattle.std.specs.Int.{w16}
use Rattle.ice_image.proofs.Spread.{same-row}

-- bit k of the number of some bits is bit k of them
pub bit_at-word_of : (bits : List Bool) (k : ℕ) → bit_at (word_of bits) k ≡ bit_value (get_or bits k false)
unfolding word_of
bit_at-word_of [] k = bit_at-zero k
bit_at-word_of (true ∷ bits) zero =
    let odd : (1 + 2 * word_of bits) % 2 ≡ 1 = omega arith in bit_at_lowest (1 + 2 * word_of bits) ∙ odd
bit_at-word_of (false ∷ bits) zero =
    let even : (0 + 2 * word_of bits) % 2 ≡ 0 = omega arith in bit_at_lowest (0 + 2 * word_of bits) ∙ even
bit_at-word_of (true ∷ bits) (suc k) =
    let half : (1 + 2 * word_of bits) / 2 ≡ word_of bits = omega arith in
    bit_at-suc (1 + 2 * word_of bits) k ∙ (ap (λ n. bit_at n k) half ∙ bit_at-word_of bits k)
bit_at-word_of (false ∷ bits) (suc k) =
    let half : (0 + 2 * word_of bits) / 2 ≡ word_of bits = omega arith in
    bit_at-suc (0 + 2 * word_of bits) k ∙ (ap (λ n. bit_at n k) half ∙ bit_at-word_of bits k)

pub bit_of-word_of : (bits : List Bool) (k : ℕ) → bit_of (word_of bits) k ≡ get_or bits k false
bit_of-word_of bits k = ap (λ n. n == 1) (bit_at-word_of bits k) ∙ test-bit_value (get_or bits k false)

-- the two words for the number of some bits
pub number_of-word_of : (bits : List Bool) → number_of bits ≡ word_of bits
unfolding word_of
number_of-word_of [] = refl
number_of-word_of (true ∷ bits) = ap (λ n. 1 + 2 * n) (number_of-word_of bits)
number_of-word_of (false ∷ bits) = ap (λ n. 0 + 2 * n) (number_of-word_of bits)

-- ---- tables

-- the number of a table's entry, in both spellings
number-four : (a b c d : Bool) → number_of (a ∷ b ∷ c ∷ d ∷ []) ≡ bit_value a + 2 * bit_value b + 4 * bit_value c + 8 * bit_value d
unfolding word_of
number-four a b c d = number_of-word_of (a ∷ b ∷ c ∷ d ∷ []) ∙ omega arith

pub table-entry : (word : ℕ) (a b c d : Bool)
    → bit_of word (number_of (a ∷ b ∷ c ∷ d ∷ [])) ≡ get_or (word_bits 16 word) (bit_value a + 2 * bit_value b + 4 * bit_value c + 8 * bit_value d) false
table-entry word a b c d =
    let number = bit_value a + 2 * bit_value b + 4 * bit_value c + 8 * bit_value d in
    let small : bit_value a + 2 * bit_value b + 4 * bit_value c + 8 * bit_value d < 16 = omega (arith, bit_value-le a, bit_value-le b, bit_value-le c, bit_value-le d) in
    ap (bit_of word) (number-four a b c d) ∙ sym (get_or-word_bits 16 word number small)

-- ---- masked words

choice : (mask word bit : Bool) → max (min (bit_value word) (bit_value mask)) (min (bit_value bit) (1 - bit_value mask)) ≡ bit_value (if mask then word else bit)
choice true true true = refl
choice true true false = refl
choice true false true = refl
choice true false false = refl
choice false true true = refl
choice false true false = refl
choice false false true = refl
choice false false false = refl

abbrev pub chosen : List Bool → List Bool → List Bool → ℕ → Bool
chosen word mask bits b = if get_or mask b false then get_or word b false else get_or bits b false

module _ (word mask bits : List Bool) (few_mask : length mask ≡ 16) (few_bits : length bits ≡ 16) where
  small-mask : word_of mask < 65536
  small-mask = subst (λ n. word_of mask < 2 ^ n) few_mask (word_of-lt mask)

  -- one bit of the masked word
  masked-bit : (k : ℕ) → bit_at (masked (word_of word) (word_of mask) (word_of bits)) k
      ≡ max (min (bit_at (word_of word) k) (bit_at (word_of mask) k)) (min (bit_at (word_of bits) k) (bit_at (65535 - word_of mask) k))
  masked-bit k =
      bit_at_or (bit_and (word_of word) (word_of mask)) (bit_and (word_of bits) (65535 - word_of mask)) k
      ∙ (ap (λ n. max n (bit_at (bit_and (word_of bits) (65535 - word_of mask)) k)) (bit_at_and (word_of word) (word_of mask) k)
      ∙ ap (λ n. max (min (bit_at (word_of word) k) (bit_at (word_of mask) k)) n) (bit_at_and (word_of bits) (65535 - word_of mask) k))

  inner-bit : (k : ℕ) → k < 16 → bit_at (masked (word_of word) (word_of mask) (word_of bits)) k ≡ bit_value (chosen word mask bits k)
  inner-bit k within =
      let flipped : bit_at (65535 - word_of mask) k ≡ 1 - bit_value (get_or mask k false) =
      bit_at_not w16 (word_of mask) k small-mask within ∙ ap (λ n. 1 - n) (bit_at-word_of mask k) in
      masked-bit k
      ∙ (rw (bit_at-word_of word k, bit_at-word_of mask k, bit_at-word_of bits k, flipped) (choice (get_or mask k false) (get_or word k false) (get_or bits k false)))

  none-left : (a b : ℕ) → max (min a 0) (min 0 b) ≡ 0
  none-left a b = omega arith

  outer-bit : (k : ℕ) → 16 ≤ k → bit_at (masked (word_of word) (word_of mask) (word_of bits)) k ≡ 0
  outer-bit k past =
      let no_mask : bit_at (word_of mask) k ≡ 0 = bit_at-word_of mask k ∙ ap bit_value (get_or_past mask k false (omega arith)) in
      let no_bits : bit_at (word_of bits) k ≡ 0 = bit_at-word_of bits k ∙ ap bit_value (get_or_past bits k false (omega arith)) in
      masked-bit k ∙ (rw (no_mask, no_bits) (none-left (bit_at (word_of word) k) (bit_at (65535 - word_of mask) k)))

  -- a bit stays if the mask is 1, and is new if it is 0
  pub masked-word : masked (word_of word) (word_of mask) (word_of bits) ≡ word_of (row_from 16 (chosen word mask bits))
  masked-word =
      same_from_bits (masked (word_of word) (word_of mask) (word_of bits)) (word_of (row_from 16 (chosen word mask bits))) (λ k.
      let right = bit_at-word_of (row_from 16 (chosen word mask bits)) k in
      elim (cases_lt k 16) [
        | inl within ↦ inner-bit k within ∙ sym (right ∙ ap bit_value (get_or-row_from 16 (chosen word mask bits) k within))
        | inr past ↦ outer-bit k past ∙ sym (right ∙ ap bit_value (get_or_past (row_from 16 (chosen word mask bits)) k false (omega (arith, length-row_from 16 (chosen word mask bits)))))
      ])

  pub masked-same : (other : ℕ → Bool) → ((k : ℕ) → k < 16 → other k ≡ chosen word mask bits k)
      → masked (word_of word) (word_of mask) (word_of bits) ≡ word_of (row_from 16 other)
  masked-same other same =
      masked-word ∙ ap word_of (same-row 16 (chosen word mask bits) other (λ k within. sym (same k within)))

-- ---- majorities

pub majority-same : (a b c : Bool) → majority a b c ≡ two_of a b c
majority-same true true true = refl
majority-same true true false = refl
majority-same true false true = refl
majority-same true false false = refl
majority-same false true true = refl
majority-same false true false = refl
majority-same false false true = refl
majority-same false false false = refl

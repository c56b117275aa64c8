-- Narrow words: the pattern of a mode, moved down and up, has the bits of the narrow word of a high part.
use Rattle.std.proofs.Common.{◌≡◌, ℕ, zero, suc, ◌+◌, ◌-◌, ◌/◌, ◌%◌, ◌^◌, ◌<◌, ◌≤◌, Bool, true, false, List, [], ◌∷◌, length, map, take, drop, get_or, min, refl, sym, ap, ◌∙◌, arith, inl, inr, pow_mono}
use Rattle.std.specs.Prelude.{◌==◌, not, nat_lt, if◌then◌else◌}
use Rattle.std.specs.Int.{bit_at}
use Rattle.std.proofs.lemmas.Bool.{cases_lt}
use Rattle.std.proofs.lemmas.List.{get_or_past, get_or-drop, length-map, length-take, length-drop}
use Rattle.std.proofs.lemmas.Nat.Bits.{bit_at_and, same_from_bits}
use Rattle.bit_plane.specs.BitList.{bit_value, word_of}
use Rattle.bit_plane.specs.Rows.{row_from}
use Rattle.bit_plane.proofs.Made.{length-row_from, get_or-row_from}
use Rattle.bit_plane.proofs.Words.{word_of-lt}
use Rattle.bit_plane.proofs.Parts.{bit_at-high}
use Rattle.narrow_words.specs.Narrow.{share, put_bit, got_bit}
use Rattle.vlog_semantics.specs.Values.{number_of}
use Rattle.vlog_semantics.specs.Run.{masked, moved_down, moved_up}
use Rattle.fabric_module.specs.Rights.{pattern_of}
use Rattle.fabric_module.proofs.Bits.{bit_at-word_of, number_of-word_of, masked-same}

-- ---- patterns

-- the pattern of a mode has the bits of narrow words of high part 0
abbrev lowest_bits : ℕ → List Bool
lowest_bits mode = row_from 16 (λ b. b % share mode == 0)

pattern-is : (mode : ℕ) → mode ≤ 3 → pattern_of mode ≡ word_of (lowest_bits mode)
unfolding word_of row_from
pattern-is zero few = refl
pattern-is (suc zero) few = refl
pattern-is (suc (suc zero)) few = refl
pattern-is (suc (suc (suc zero))) few = refl
pattern-is (suc (suc (suc (suc mode)))) few = absurd (omega (arith, few))

pub pattern-small : (mode : ℕ) → pattern_of mode < 65536
pattern-small zero = omega arith
pattern-small (suc zero) = omega arith
pattern-small (suc (suc zero)) = omega arith
pattern-small (suc (suc (suc zero))) = omega arith
pattern-small (suc (suc (suc (suc mode)))) = omega arith

-- moved up, it has those of the narrow words of that high part; the mask has the others
abbrev other_bits : ℕ → ℕ → List Bool
other_bits mode high = row_from 16 (λ b. not (b % share mode == high))

mask-1 : (high : ℕ) → high < 2 → 65535 - moved_up 21845 high ≡ word_of (other_bits 1 high)
unfolding word_of row_from
mask-1 zero small = refl
mask-1 (suc zero) small = refl
mask-1 (suc (suc high)) small = absurd (omega (arith, small))

mask-2 : (high : ℕ) → high < 4 → 65535 - moved_up 4369 high ≡ word_of (other_bits 2 high)
unfolding word_of row_from
mask-2 zero small = refl
mask-2 (suc zero) small = refl
mask-2 (suc (suc zero)) small = refl
mask-2 (suc (suc (suc zero))) small = refl
mask-2 (suc (suc (suc (suc high)))) small = absurd (omega (arith, small))

mask-3 : (high : ℕ) → high < 8 → 65535 - moved_up 257 high ≡ word_of (other_bits 3 high)
unfolding word_of row_from
mask-3 zero small = refl
mask-3 (suc zero) small = refl
mask-3 (suc (suc zero)) small = refl
mask-3 (suc (suc (suc zero))) small = refl
mask-3 (suc (suc (suc (suc zero)))) small = refl
mask-3 (suc (suc (suc (suc (suc zero))))) small = refl
mask-3 (suc (suc (suc (suc (suc (suc zero)))))) small = refl
mask-3 (suc (suc (suc (suc (suc (suc (suc zero))))))) small = refl
mask-3 (suc (suc (suc (suc (suc (suc (suc (suc high)))))))) small = absurd (omega (arith, small))

mask-is : (mode high : ℕ) → 0 < mode → mode ≤ 3 → high < share mode → 65535 - moved_up (pattern_of mode) high ≡ word_of (other_bits mode high)
mask-is zero high some few small = absurd (omega (arith, some))
mask-is (suc zero) high some few small = mask-1 high small
mask-is (suc (suc zero)) high some few small = mask-2 high small
mask-is (suc (suc (suc zero))) high some few small = mask-3 high small
mask-is (suc (suc (suc (suc mode)))) high some few small = absurd (omega (arith, few))

-- ---- reads

kept : (word passes : Bool) → min (bit_value word) (bit_value passes) ≡ bit_value (if passes then word else false)
kept true true = refl
kept true false = refl
kept false true = refl
kept false false = refl

none-kept : (n : ℕ) → min n 0 ≡ 0
none-kept n = omega arith

module _ (mode : ℕ) (few : mode ≤ 3) (word : List Bool) (high : ℕ) where
  down-bit : (k : ℕ) → bit_at (moved_down (word_of word) high (pattern_of mode)) k ≡ min (bit_value (get_or word (k + high) false)) (bit_value (get_or (lowest_bits mode) k false))
  down-bit k =
      let place : high + k ≡ k + high = omega arith in
      let shifted : bit_at (word_of word / 2 ^ high) k ≡ bit_value (get_or word (k + high) false) =
      bit_at-high (word_of word) high k ∙ bit_at-word_of word (high + k) ∙ ap (λ n. bit_value (get_or word n false)) place in
      let pattern_bit : bit_at (pattern_of mode) k ≡ bit_value (get_or (lowest_bits mode) k false) =
      ap (λ n. bit_at n k) (pattern-is mode few) ∙ bit_at-word_of (lowest_bits mode) k in
      bit_at_and (word_of word / 2 ^ high) (pattern_of mode) k ∙ (rw (shifted, pattern_bit) refl)

  -- what is taken of a word is what is got of its narrow word
  pub moved_down-is : moved_down (word_of word) high (pattern_of mode) ≡ word_of (row_from 16 (got_bit mode (λ b. get_or word b false) high))
  moved_down-is =
      let bits = row_from 16 (got_bit mode (λ b. get_or word b false) high) in
      same_from_bits (moved_down (word_of word) high (pattern_of mode)) (word_of (row_from 16 (got_bit mode (λ b. get_or word b false) high))) (λ k.
      elim (cases_lt k 16) [
        | inl within ↦
            down-bit k
            ∙ ap (λ b. min (bit_value (get_or word (k + high) false)) (bit_value b)) (get_or-row_from 16 (λ b. b % share mode == 0) k within)
            ∙ kept (get_or word (k + high) false) (k % share mode == 0)
            ∙ sym (bit_at-word_of bits k ∙ ap bit_value (get_or-row_from 16 (got_bit mode (λ b. get_or word b false) high) k within))
        | inr past ↦
            down-bit k
            ∙ ap (λ b. min (bit_value (get_or word (k + high) false)) (bit_value b)) (get_or_past (lowest_bits mode) k false (omega (arith, length-row_from 16 (λ b. b % share mode == 0))))
            ∙ none-kept (bit_value (get_or word (k + high) false))
            ∙ sym (bit_at-word_of bits k ∙ ap bit_value (get_or_past bits k false (omega (arith, length-row_from 16 (got_bit mode (λ b. get_or word b false) high)))))
      ])

-- ---- writes

put-choice : (passes : Bool) (value old : Bool) → (if passes then value else old) ≡ (if not passes then old else value)
put-choice true value old = refl
put-choice false value old = refl

-- the word under the moved pattern is the one in which the narrow word is put
pub put-is : (mode high : ℕ) (word bits : List Bool) (value : ℕ → Bool) → 0 < mode → mode ≤ 3 → high < share mode → length bits ≡ 16
    → ((k : ℕ) → k < 16 → get_or bits k false ≡ value (k / share mode))
    → masked (word_of word) (65535 - moved_up (pattern_of mode) high) (word_of bits) ≡ word_of (row_from 16 (put_bit mode (λ b. get_or word b false) high value))
put-is mode high word bits value some few small sixteen at =
    ap (λ mask. masked (word_of word) mask (word_of bits)) (mask-is mode high some few small)
    ∙ masked-same word (other_bits mode high) bits (length-row_from 16 (λ b. not (b % share mode == high))) sixteen
    (put_bit mode (λ b. get_or word b false) high value)
    (λ k within.
    put-choice (k % share mode == high) (value (k / share mode)) (get_or word k false)
    ∙ (rw (get_or-row_from 16 (λ b. not (b % share mode == high)) k within, at k within) refl))

-- ---- high parts

-- the number of three atoms that have the bits of a high part, and 0 if the mode has no such bit
abbrev pub high_bit : {A : Type 0} → (A → Bool) → List A → A → ℕ → ℕ → Bool
high_bit value ports missing mode k = if nat_lt k mode then value (get_or ports (8 + k) missing) else false

three-number : {A : Type 0} (value : A → Bool) (missing : A) (mode : ℕ) (high : List A) → mode ≤ 3 → length high ≡ 3
    → number_of ((if nat_lt 0 mode then value (get_or high 0 missing) else false) ∷ (if nat_lt 1 mode then value (get_or high 1 missing) else false)
    ∷ (if nat_lt 2 mode then value (get_or high 2 missing) else false) ∷ [])
    ≡ word_of (map value (take mode high))
unfolding word_of
three-number value missing zero (a ∷ b ∷ c ∷ []) few three = refl
three-number value missing (suc zero) (a ∷ b ∷ c ∷ []) few three = number_of-word_of (value a ∷ false ∷ false ∷ [])
three-number value missing (suc (suc zero)) (a ∷ b ∷ c ∷ []) few three = number_of-word_of (value a ∷ value b ∷ false ∷ [])
three-number value missing (suc (suc (suc zero))) (a ∷ b ∷ c ∷ []) few three = number_of-word_of (value a ∷ value b ∷ value c ∷ [])
three-number value missing (suc (suc (suc (suc mode)))) high few three = absurd (omega (arith, few))
three-number value missing mode [] few three = absurd (omega (arith, three))
three-number value missing mode (a ∷ []) few three = absurd (omega (arith, three))
three-number value missing mode (a ∷ b ∷ []) few three = absurd (omega (arith, three))
three-number value missing mode (a ∷ b ∷ c ∷ d ∷ high) few three = absurd (omega (arith, three))

pub high-number : {A : Type 0} (value : A → Bool) (missing : A) (mode : ℕ) (ports : List A) → mode ≤ 3 → length ports ≡ 11
    → number_of (high_bit value ports missing mode 0 ∷ high_bit value ports missing mode 1 ∷ high_bit value ports missing mode 2 ∷ [])
    ≡ word_of (map value (take mode (drop 8 ports)))
high-number value missing mode ports few eleven =
    (rw (sym (get_or-drop 8 ports 0 missing), sym (get_or-drop 8 ports 1 missing), sym (get_or-drop 8 ports 2 missing)) refl)
    ∙ three-number value missing mode (drop 8 ports) few (omega (arith, length-drop 8 ports, eleven))

-- it is one of the mode's
pub high-small : {A : Type 0} (value : A → Bool) (mode : ℕ) (ports : List A) → word_of (map value (take mode ports)) < share mode
high-small value mode ports =
    let short : length (map value (take mode ports)) ≤ mode = omega (arith, length-map (take mode ports) value, length-take mode ports) in
    omega (arith, word_of-lt (map value (take mode ports)), pow_mono {i = length (map value (take mode ports))} {j = mode} short)

-- Parts of the bits of a word.
use Rattle.std.proofs.Common.{◌≡◌, ℕ, zero, suc, ◌+◌, ◌-◌, ◌*◌, ◌/◌, ◌%◌, ◌==◌, ◌^◌, ◌<◌, ◌≤◌, Bool, false, List, [], ◌∷◌, ◌++◌, length, get_or, take, drop, refl, sym, ap, ap₂, ◌∙◌, arith, take_at, drop_at, inl, inr, ext_get_or, pow-suc, pow_mono, bit_or}
use Rattle.std.specs.Int.RustNames.{bit_xor}
use Rattle.std.specs.Int.{bit_at}
use Rattle.std.proofs.Math.Nat.{div-div-eq-div-mul, mod-eq_of_lt, mul_assoc, mul_comm, pow-succ', mod-lt}
use Rattle.std.proofs.lemmas.Nat.{shr-shr, mod-pow-add, pow-add, div-add-mod', mul-add-lt, pow_pos}
use Rattle.std.specs.Int.Bits.{or_shifted_r}
use Rattle.std.proofs.lemmas.Nat.Bits.{bit_at_xor, bit_at_cat_low, bit_at_cat_high, bit_at_above, bit_at-lt, bit_at-zero}
use Rattle.std.proofs.lemmas.Bool.{cases_lt}
use Rattle.bit_plane.specs.BitList.{word_bits, word_of, placed}
use Rattle.bit_plane.proofs.Words.{length-word_bits, get_or-word_bits, bit_value-test, word_of-lt}
use Rattle.bit_plane.proofs.Places.{length-placed, get_or-placed, get_or-placed_before, get_or-placed_after}

-- the low bits and those above them
pub word_bits-add : (low high n : ℕ) → word_bits (low + high) n ≡ word_bits low n ++ word_bits high (n / 2 ^ low)
unfolding word_bits
word_bits-add zero high n =
    let e : n / 2 ^ 0 ≡ n = omega arith in
    let z : 0 + high ≡ high = omega arith in
    rw (e, z) refl
word_bits-add (suc low) high n =
    let count : suc low + high ≡ suc (low + high) = omega arith in
    let half : n / 2 / 2 ^ low ≡ n / 2 ^ suc low = div-div-eq-div-mul n 2 (2 ^ low) ∙ ap (λ d. n / d) (omega (arith, pow-suc 2 low)) in
    ap (λ k. word_bits k n) count ∙ ap (λ bits. (n % 2 == 1) ∷ bits) (word_bits-add low high (n / 2) ∙ ap (λ m. word_bits low (n / 2) ++ word_bits high m) half)

-- the first bits of a word
pub take-word_bits : (low high n : ℕ) → take low (word_bits (low + high) n) ≡ word_bits low n
take-word_bits low high n =
    ap (take low) (word_bits-add low high n) ∙ take_at (word_bits low n) (word_bits high (n / 2 ^ low)) low (length-word_bits low n)

-- the bits of a word from one on
pub drop-word_bits : (low high n : ℕ) → drop low (word_bits (low + high) n) ≡ word_bits high (n / 2 ^ low)
drop-word_bits low high n =
    ap (drop low) (word_bits-add low high n) ∙ drop_at (word_bits low n) (word_bits high (n / 2 ^ low)) low (length-word_bits low n)

-- the word of a number's low bits
pub word_of-low : (count n : ℕ) → word_of (word_bits count n) ≡ n % 2 ^ count
unfolding word_of word_bits
word_of-low zero n = omega arith
word_of-low (suc count) n =
    let plus : suc count ≡ count + 1 = omega arith in
    let cut : n % 2 ^ suc count ≡ (n / 2 ^ 1 % 2 ^ count) * 2 ^ 1 + n % 2 ^ 1 = ap (λ k. n % 2 ^ k) plus ∙ mod-pow-add n count 1 in
    omega (arith, cut, word_of-low count (n / 2), bit_value-test (n % 2) (omega arith))

-- the word of a part of a word's bits
pub part_is : (word at count : ℕ) → at + count ≤ 64 → word / 2 ^ at % 2 ^ count ≡ word_of (take count (drop at (word_bits 64 word)))
part_is word at count within =
    let whole : 64 ≡ at + (count + (64 - at - count)) = omega arith in
    let cut : take count (drop at (word_bits 64 word)) ≡ word_bits count (word / 2 ^ at) = ap (λ n. take count (drop at (word_bits n word))) whole ∙ ap (take count) (drop-word_bits at (count + (64 - at - count)) word) ∙ take-word_bits count (64 - at - count) (word / 2 ^ at) in
    sym (ap word_of cut ∙ word_of-low count (word / 2 ^ at))

-- the word of two lists of bits
pub word_of-append : (front back : List Bool) → word_of (front ++ back) ≡ word_of front + 2 ^ length front * word_of back
unfolding word_of
word_of-append [] back = omega arith
word_of-append (bit ∷ front) back =
    let double : 2 ^ suc (length front) * word_of back ≡ 2 * (2 ^ length front * word_of back) = ap (λ p. p * word_of back) (pow-succ' 2 (length front)) ∙ mul_assoc 2 (2 ^ length front) (word_of back) in
    omega (arith, double, word_of-append front back)

-- a number of few bits moves up without a loss
pub shifted_fits : (m at count : ℕ) → m < 2 ^ count → at + count ≤ 64 → m * 2 ^ at % 2 ^ 64 ≡ m * 2 ^ at
shifted_fits m at count small within =
    let room : m * 2 ^ at + 0 < 2 ^ at * 2 ^ count = mul-add-lt m (2 ^ at) 0 (2 ^ count) small (pow_pos at) in
    mod-eq_of_lt (omega (arith, room, pow-add 2 at count, pow_mono {i = at + count} {j = 64} within))

-- the numbers of two parts, side by side in one word
pub joined : (front back : List Bool) (at count a b : ℕ) → length front ≡ at → length back ≡ count → at + count ≤ 64 → a ≡ word_of front → b ≡ word_of back → bit_or a (b * 2 ^ at % 2 ^ 64) ≡ word_of (front ++ back)
joined front back at count a b front_long back_long within a_is b_is =
    let low : a < 2 ^ at = rw (a_is, sym front_long) (word_of-lt front) in
    let high : b < 2 ^ count = rw (b_is, sym back_long) (word_of-lt back) in
    let side : b * 2 ^ at ≡ 2 ^ length front * word_of back = ap₂ (λ x n. x * 2 ^ n) b_is (sym front_long) ∙ mul_comm (word_of back) (2 ^ length front) in
    ap (bit_or a) (shifted_fits b at count high within) ∙ or_shifted_r b at a low ∙ omega (arith, side, a_is, word_of-append front back)

-- the low bits of a number are its own
pub bit_at-low : (n count i : ℕ) → i < count → bit_at (n % 2 ^ count) i ≡ bit_at n i
bit_at-low n count i within =
    sym (bit_at_cat_low (n / 2 ^ count) count (n % 2 ^ count) i within) ∙ ap (λ k. bit_at k i) (div-add-mod' n (2 ^ count))

-- the bits of a number from one on
pub bit_at-high : (n low i : ℕ) → bit_at (n / 2 ^ low) i ≡ bit_at n (low + i)
bit_at-high n low i = ap (λ m. m % 2) (shr-shr n low i)

-- a bit below those that moved up
pub moved_below : (m at i : ℕ) → i < at → bit_at (m * 2 ^ at) i ≡ 0
moved_below m at i below =
    let e : m * 2 ^ at ≡ m * 2 ^ at + 0 = omega arith in
    ap (λ k. bit_at k i) e ∙ bit_at_cat_low m at 0 i below ∙ bit_at-zero i

-- a bit that moved up
pub moved : (m at i : ℕ) → at ≤ i → bit_at (m * 2 ^ at) i ≡ bit_at m (i - at)
moved m at i above =
    let e : m * 2 ^ at ≡ m * 2 ^ at + 0 = omega arith in
    ap (λ k. bit_at k i) e ∙ bit_at_cat_high m at 0 i (pow_pos at) above

-- the change of one bit of a word, if a part of it is changed by what it differs from other bits
bit_changed : (word at count bits i : ℕ) → at ≤ i → i < at + count → bit_at (bit_xor word (bit_xor (word / 2 ^ at) bits % 2 ^ count * 2 ^ at)) i ≡ bit_at bits (i - at)
bit_changed word at count bits i after within =
    let j : ℕ = i - at in
    let change : ℕ = bit_xor (word / 2 ^ at) bits in
    let back : at + j ≡ i = omega arith in
    let place : bit_at (word / 2 ^ at) j ≡ bit_at word i = bit_at-high word at j ∙ ap (bit_at word) back in
    let here : bit_at (change % 2 ^ count * 2 ^ at) i ≡ (bit_at (word / 2 ^ at) j + bit_at bits j) % 2 = moved (change % 2 ^ count) at i after ∙ bit_at-low change count j (omega arith) ∙ bit_at_xor (word / 2 ^ at) bits j in
    bit_at_xor word (change % 2 ^ count * 2 ^ at) i ∙ omega (arith, place, here, bit_at-lt word i, bit_at-lt bits j)

-- a bit at which nothing is changed
bit_kept : (word change i : ℕ) → bit_at change i ≡ 0 → bit_at (bit_xor word change) i ≡ bit_at word i
bit_kept word change i none =
    bit_at_xor word change i ∙ omega (arith, none, bit_at-lt word i)

-- a part of a word changed by what it differs from other bits has those
pub replaced_is : (word at count bits : ℕ) → at + count ≤ 64 → word_bits 64 (bit_xor word (bit_xor (word / 2 ^ at) bits % 2 ^ count * 2 ^ at)) ≡ placed at (word_bits count bits) (word_bits 64 word)
replaced_is word at count bits within =
    let part : List Bool = word_bits count bits in
    let whole : List Bool = word_bits 64 word in
    let part_long : length part ≡ count = length-word_bits count bits in
    let whole_long : length whole ≡ 64 = length-word_bits 64 word in
    let change : ℕ = bit_xor (word / 2 ^ at) bits % 2 ^ count in
    let small : change < 2 ^ count = mod-lt (bit_xor (word / 2 ^ at) bits) (pow_pos count) in
    let new : ℕ = bit_xor word (change * 2 ^ at) in
    ext_get_or false (word_bits 64 new) (placed at part whole) (length-word_bits 64 new ∙ sym (length-placed at part whole (omega arith) ∙ whole_long)) (λ i inside.
    let i_small : i < 64 = omega (arith, length-word_bits 64 new) in
    get_or-word_bits 64 new i i_small ∙ elim (cases_lt i at) [
      | inl before ↦ ap (λ m. m == 1) (bit_kept word (change * 2 ^ at) i (moved_below change at i before)) ∙ sym (get_or-placed_before at i part whole false before (omega arith) ∙ get_or-word_bits 64 word i i_small)
      | inr after ↦ elim (cases_lt i (at + count)) [
        | inl among ↦
            let back : at + (i - at) ≡ i = omega arith in
            ap (λ m. m == 1) (bit_changed word at count bits i after among) ∙ sym (ap (λ k. get_or (placed at part whole) k false) (sym back) ∙ get_or-placed at (i - at) part whole false (omega arith) (omega arith) ∙ get_or-word_bits count bits (i - at) (omega arith))
        | inr past ↦ ap (λ m. m == 1) (bit_kept word (change * 2 ^ at) i (moved change at i after ∙ bit_at_above change count (i - at) small (omega arith))) ∙ sym (get_or-placed_after at i part whole false (omega arith) (omega arith) ∙ get_or-word_bits 64 word i i_small)
      ]
    ])

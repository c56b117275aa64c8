-- Words that gain the bits of a number.
use Rattle.std.proofs.Common.{◌≡◌, ℕ, ◌+◌, ◌-◌, ◌*◌, ◌/◌, ◌%◌, ◌==◌, ◌^◌, ◌<◌, ◌≤◌, Bool, false, List, ◌++◌, length, get_or, set, take, drop, sym, ap, ap₂, ◌∙◌, arith, inl, inr, ext_get_or, bit_or, max, get_or-set_other, length-take-le, length-drop}
use Rattle.std.specs.Int.{bit_at}
use Rattle.std.proofs.Math.Nat.{mul_comm, mod-lt}
use Rattle.std.proofs.lemmas.Nat.{pow_pos}
use Rattle.std.proofs.lemmas.Nat.Bits.{bit_at_or, bit_at_cat_low, bit_at_cat_high, bit_at_above}
use Rattle.std.proofs.lemmas.Bool.{cases_lt}
use Rattle.bit_plane.specs.BitList.{word_bits, word_of, placed}
use Rattle.bit_plane.specs.inside.Packed.{packed}
use Rattle.bit_plane.proofs.Words.{length-word_bits, get_or-word_bits, word_of-lt}
use Rattle.bit_plane.proofs.Parts.{word_bits-add, word_of-append, part_is, bit_at-low, bit_at-high, moved, moved_below}
use Rattle.bit_plane.proofs.Places.{length-placed, get_or-placed, get_or-placed_before, get_or-placed_after}
use Rattle.bit_plane.proofs.Packed.{bits_in_word, bits_in_words, packed-set_at, packed-set_parts}

-- ---- one word

-- the low bits of two numbers are the same, if each of them is
same_bits : (count a b : ℕ) → ((i : ℕ) → i < count → bit_at a i ≡ bit_at b i) → word_bits count a ≡ word_bits count b
same_bits count a b same =
    ext_get_or false (word_bits count a) (word_bits count b) (length-word_bits count a ∙ sym (length-word_bits count b)) (λ i inside.
    let within : i < count = omega (arith, length-word_bits count a) in
    get_or-word_bits count a i within ∙ ap (λ m. m == 1) (same i within) ∙ sym (get_or-word_bits count b i within))

-- a bit that a word gains if it gains some from a place on
bit_gained : (word at count bits i : ℕ) → at ≤ i → i < at + count → at + count ≤ 64 → bit_at (bit_or word (bits % 2 ^ count * 2 ^ at)) i ≡ bit_at (bit_or (word_of (take count (drop at (word_bits 64 word)))) bits) (i - at)
bit_gained word at count bits i after within room =
    let j : ℕ = i - at in
    let back : at + j ≡ i = omega arith in
    let there : bit_at word i ≡ bit_at (word_of (take count (drop at (word_bits 64 word)))) j =
    sym (ap (λ n. bit_at n j) (sym (part_is word at count room)) ∙ bit_at-low (word / 2 ^ at) count j (omega arith) ∙ bit_at-high word at j ∙ ap (bit_at word) back) in
    let new : bit_at (bits % 2 ^ count * 2 ^ at) i ≡ bit_at bits j = moved (bits % 2 ^ count) at i after ∙ bit_at-low bits count j (omega arith) in
    bit_at_or word (bits % 2 ^ count * 2 ^ at) i ∙ ap₂ max there new ∙ sym (bit_at_or (word_of (take count (drop at (word_bits 64 word)))) bits j)

-- a bit at which nothing is gained
bit_kept : (word more i : ℕ) → bit_at more i ≡ 0 → bit_at (bit_or word more) i ≡ bit_at word i
bit_kept word more i none = bit_at_or word more i ∙ omega (arith, none)

-- a word that gains the low bits of a number from a place on
pub gained_is : (word at count bits : ℕ) → at + count ≤ 64 → word_bits 64 (bit_or word (bits % 2 ^ count * 2 ^ at)) ≡ placed at (word_bits count (bit_or (word_of (take count (drop at (word_bits 64 word)))) bits)) (word_bits 64 word)
gained_is word at count bits within =
    let both : ℕ = bit_or (word_of (take count (drop at (word_bits 64 word)))) bits in
    let part : List Bool = word_bits count both in
    let whole : List Bool = word_bits 64 word in
    let part_long : length part ≡ count = length-word_bits count both in
    let whole_long : length whole ≡ 64 = length-word_bits 64 word in
    let ones : ℕ = bits % 2 ^ count in
    let small : ones < 2 ^ count = mod-lt bits (pow_pos count) in
    let new : ℕ = bit_or word (ones * 2 ^ at) in
    ext_get_or false (word_bits 64 new) (placed at part whole) (length-word_bits 64 new ∙ sym (length-placed at part whole (omega arith) ∙ whole_long)) (λ i inside.
    let i_small : i < 64 = omega (arith, length-word_bits 64 new) in
    get_or-word_bits 64 new i i_small ∙ elim (cases_lt i at) [
      | inl before ↦ ap (λ m. m == 1) (bit_kept word (ones * 2 ^ at) i (moved_below ones at i before)) ∙ sym (get_or-placed_before at i part whole false before (omega arith) ∙ get_or-word_bits 64 word i i_small)
      | inr after ↦ elim (cases_lt i (at + count)) [
        | inl among ↦
            let back : at + (i - at) ≡ i = omega arith in
            ap (λ m. m == 1) (bit_gained word at count bits i after among within) ∙ sym (ap (λ k. get_or (placed at part whole) k false) (sym back) ∙ get_or-placed at (i - at) part whole false (omega arith) (omega arith) ∙ get_or-word_bits count both (i - at) (omega arith))
        | inr past ↦ ap (λ m. m == 1) (bit_kept word (ones * 2 ^ at) i (moved ones at i after ∙ bit_at_above ones count (i - at) small (omega arith))) ∙ sym (get_or-placed_after at i part whole false (omega arith) (omega arith) ∙ get_or-word_bits 64 word i i_small)
      ]
    ])

-- ---- two words

-- what the bits of two lists gain is what each of them gains
gained-append : (front back : List Bool) (here more bits : ℕ) → length front ≡ here → word_bits (here + more) (bit_or (word_of (front ++ back)) bits) ≡ word_bits here (bit_or (word_of front) bits) ++ word_bits more (bit_or (word_of back) (bits / 2 ^ here))
gained-append front back here more bits front_long =
    let low : ℕ = word_of front in
    let high : ℕ = word_of back in
    let low_small : low < 2 ^ here = rw (sym front_long) (word_of-lt front) in
    let side : 2 ^ length front * high ≡ high * 2 ^ here = ap (λ n. 2 ^ n * high) front_long ∙ mul_comm (2 ^ here) high in
    let parts : word_of (front ++ back) ≡ high * 2 ^ here + low = omega (arith, side, word_of-append front back) in
    let both : ℕ = bit_or (high * 2 ^ here + low) bits in
    let lows : word_bits here both ≡ word_bits here (bit_or low bits) = same_bits here both (bit_or low bits) (λ i within.
    bit_at_or (high * 2 ^ here + low) bits i ∙ ap (λ m. max m (bit_at bits i)) (bit_at_cat_low high here low i within) ∙ sym (bit_at_or low bits i)) in
    let highs : word_bits more (both / 2 ^ here) ≡ word_bits more (bit_or high (bits / 2 ^ here)) = same_bits more (both / 2 ^ here) (bit_or high (bits / 2 ^ here)) (λ i within.
    let back : here + i - here ≡ i = omega arith in
    let there : bit_at (high * 2 ^ here + low) (here + i) ≡ bit_at high i = bit_at_cat_high high here low (here + i) low_small (omega arith) ∙ ap (bit_at high) back in
    bit_at-high both here i ∙ bit_at_or (high * 2 ^ here + low) bits (here + i) ∙ ap₂ max there (sym (bit_at-high bits here i)) ∙ sym (bit_at_or high (bits / 2 ^ here) i)) in
    ap (λ n. word_bits (here + more) (bit_or n bits)) parts ∙ word_bits-add here more both ∙ ap₂ (λ (xs ys : List Bool). xs ++ ys) lows highs

-- bits that lie in one word gain those of a number
pub packed-gained : (words : List ℕ) (position count bits a : ℕ) → position / 64 < length words → position % 64 + count ≤ 64 → word_bits 64 a ≡ placed (position % 64) (word_bits count (bit_or (word_of (take count (drop (position % 64) (word_bits 64 (get_or words (position / 64) 0))))) bits)) (word_bits 64 (get_or words (position / 64) 0))
    → packed (set words (position / 64) a) ≡ placed position (word_bits count (bit_or (word_of (take count (drop position (packed words)))) bits)) (packed words)
packed-gained words position count bits a within small a_is =
    let both : ℕ = bit_or (word_of (take count (drop (position % 64) (word_bits 64 (get_or words (position / 64) 0))))) bits in
    packed-set_at words position a (word_bits count both) within (omega (arith, small, length-word_bits count both)) a_is
    ∙ ap (λ part. placed position (word_bits count (bit_or (word_of part) bits)) (packed words)) (sym (bits_in_word words position count within small))

-- bits that lie in two words
pub packed-gained_two : (words : List ℕ) (position count here bits a b : ℕ) → position / 64 + 1 < length words → here ≡ 64 - position % 64 → here ≤ count → count ≤ 64
    → word_bits 64 a ≡ placed (position % 64) (word_bits here (bit_or (word_of (take here (drop (position % 64) (word_bits 64 (get_or words (position / 64) 0))))) bits)) (word_bits 64 (get_or words (position / 64) 0))
    → word_bits 64 b ≡ placed 0 (word_bits (count - here) (bit_or (word_of (take (count - here) (drop 0 (word_bits 64 (get_or (set words (position / 64) a) (position / 64 + 1) 0))))) (bits / 2 ^ here))) (word_bits 64 (get_or (set words (position / 64) a) (position / 64 + 1) 0))
    → packed (set (set words (position / 64) a) (position / 64 + 1) b) ≡ placed position (word_bits count (bit_or (word_of (take count (drop position (packed words)))) bits)) (packed words)
packed-gained_two words position count here bits a b within here_is some small a_is b_is =
    let place : ℕ = position / 64 in
    let more : ℕ = count - here in
    let first : List Bool = word_bits 64 (get_or words place 0) in
    let front : List Bool = take here (drop (position % 64) first) in
    let front_long : length front ≡ here = length-take-le here (drop (position % 64) first) (omega (arith, length-drop (position % 64) first, length-word_bits 64 (get_or words place 0))) in
    let back : ℕ → List Bool = λ word. take more (drop 0 (word_bits 64 word)) in
    let next : get_or (set words place a) (place + 1) 0 ≡ get_or words (place + 1) 0 = get_or-set_other words place (place + 1) a 0 (λ e. absurd (omega (arith, e))) in
    let low : List Bool = word_bits here (bit_or (word_of front) bits) in
    let high : ℕ → List Bool = λ word. word_bits more (bit_or (word_of (back word)) (bits / 2 ^ here)) in
    let old : ℕ = get_or (set words place a) (place + 1) 0 in
    let e : count ≡ here + more = omega arith in
    packed-set_parts words position a b low (high old) within (length-word_bits here (bit_or (word_of front) bits) ∙ here_is) (omega (arith, length-word_bits more (bit_or (word_of (back old)) (bits / 2 ^ here)))) a_is b_is
    ∙ ap (λ word. placed position (low ++ high word) (packed words)) next
    ∙ ap (λ part. placed position part (packed words)) (sym (
    ap (λ part. word_bits count (bit_or (word_of part) bits)) (bits_in_words words position count here within here_is some small)
    ∙ ap (λ n. word_bits n (bit_or (word_of (front ++ back (get_or words (place + 1) 0))) bits)) e
    ∙ gained-append front (back (get_or words (place + 1) 0)) here more bits front_long))

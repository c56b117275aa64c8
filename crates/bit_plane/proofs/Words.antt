-- Words and the bits that they are, the lowest first.
use Rattle.std.proofs.Common.{◌≡◌, ℕ, zero, suc, ◌+◌, ◌-◌, ◌*◌, ◌/◌, ◌%◌, ◌==◌, ◌^◌, ◌<◌, ◌≤◌, Bool, true, false, List, [], ◌∷◌, length, get_or, drop, refl, sym, ap, ◌∙◌, arith, length-set, set, pow-suc, pow_mono, ◌≢◌, replicate, bit_and, bit_or, ap₂, subst, inl, inr, get_or-set_same, get_or-set_other, ext_get_or, w64}
use mir.Val.{bool_byte}
use Rattle.std.proofs.lemmas.List.{at_drop_more, at_drop_all}
use Rattle.bit_plane.specs.BitList.{bit_value, word_bits, word_of}
pub use Rattle.bit_plane.specs.inside.Packed.{length-word_bits}
use Rattle.std.proofs.lemmas.Bool.{cases_eq}
use Rattle.std.proofs.lemmas.Nat.{or_lt, pow_below, one_shl}
use Rattle.std.proofs.lemmas.Nat.Bits.{bit_at_lowest, bit_at-suc, bit_at_set_same, bit_at_set_other, bit_at_clear_same, bit_at_clear_other}

-- a bit is worth at most 1
pub bit_value-le : (bit : Bool) → bit_value bit ≤ 1
bit_value-le true = omega arith
bit_value-le false = omega arith

-- the word of n bits is below 2 ^ n
pub word_of-lt : (bits : List Bool) → word_of bits < 2 ^ length bits
unfolding word_of
word_of-lt [] = omega arith
word_of-lt (bit ∷ bits) =
    omega (arith, pow-suc 2 (length bits), bit_value-le bit, word_of-lt bits)

-- sixty-four bits fit a word
pub word_of-fits : (bits : List Bool) → length bits ≤ 64 → word_of bits < 2 ^ 64
word_of-fits bits short =
    omega (arith, word_of-lt bits, pow_mono {i = length bits} {j = 64} short)

-- the word from a place on: its first bit, and twice the word after it
pub word_of-drop : (bits : List Bool) (i : ℕ) → i < length bits → word_of (drop i bits) ≡ bit_value (get_or bits i false) + 2 * word_of (drop (i + 1) bits)
unfolding word_of
word_of-drop bits i within = at_drop_more word_of bits i false within

-- one bit before a word
pub word_step : (bits : List Bool) (i word bit : ℕ) → 0 < i → i ≤ length bits → word ≡ word_of (drop i bits) → bit ≡ bit_value (get_or bits (i - 1) false) → 2 * word + bit ≡ word_of (drop (i - 1) bits)
word_step bits i word bit some within word_is bit_is =
    let e : i - 1 + 1 ≡ i = omega arith in
    let next = word_of-drop bits (i - 1) (omega arith) in
    let following : word_of (drop (i - 1 + 1) bits) ≡ word = ap (λ n. word_of (drop n bits)) e ∙ sym word_is in
    omega (arith, next, following, bit_is)

-- a bit as a number
pub bool_byte-is : (bit : Bool) → bool_byte bit ≡ bit_value bit
bool_byte-is true = refl
bool_byte-is false = refl

-- no bits are the word 0
pub word_of-drop_all : (bits : List Bool) → word_of (drop (length bits) bits) ≡ 0
unfolding word_of
word_of-drop_all bits = at_drop_all word_of bits (length bits) (omega arith)

-- the lowest bit, and those of the half
pub word_bits-more : (count n : ℕ) → 0 < count → word_bits count n ≡ (n % 2 == 1) ∷ word_bits (count - 1) (n / 2)
unfolding word_bits
word_bits-more zero n some = absurd (omega arith)
word_bits-more (suc count) n some = let e : suc count - 1 ≡ count = omega arith in rw e refl

-- place i of a word's bits is whether it has the bit of value 2 ^ i
pub get_or-word_bits : (count n i : ℕ) → i < count → get_or (word_bits count n) i false ≡ (n / 2 ^ i % 2 == 1)
unfolding word_bits
get_or-word_bits zero n i within = absurd (omega arith)
get_or-word_bits (suc count) n zero within = ap (λ m. m == 1) (sym (bit_at_lowest n))
get_or-word_bits (suc count) n (suc i) within =
    get_or-word_bits count (n / 2) i (omega arith) ∙ ap (λ m. m == 1) (sym (bit_at-suc n i))

-- a bit as a number, from the test of it
pub bit_value-test : (m : ℕ) → m < 2 → bit_value (m == 1) ≡ m
bit_value-test zero small = refl
bit_value-test (suc zero) small = refl
bit_value-test (suc (suc m)) small = absurd (omega arith)

-- the test of a bit as a number
pub test-bit_value : (bit : Bool) → (bit_value bit == 1) ≡ bit
test-bit_value true = refl
test-bit_value false = refl

-- a number has the word of its bits
pub word_of-word_bits : (count n : ℕ) → n < 2 ^ count → word_of (word_bits count n) ≡ n
unfolding word_of word_bits
word_of-word_bits zero n small = omega arith
word_of-word_bits (suc count) n small =
    let power = pow-suc 2 count in
    let rest = word_of-word_bits count (n / 2) (omega (arith, power)) in
    omega (arith, rest, bit_value-test (n % 2) (omega arith))

-- the word of bits has those bits
pub word_bits-word_of : (bits : List Bool) → word_bits (length bits) (word_of bits) ≡ bits
unfolding word_of word_bits
word_bits-word_of [] = refl
word_bits-word_of (true ∷ bits) =
    let half : (1 + 2 * word_of bits) / 2 ≡ word_of bits = omega arith in
    let odd : (1 + 2 * word_of bits) % 2 ≡ 1 = omega arith in
    ap₂ (λ m rest. (m == 1) ∷ rest) odd (ap (word_bits (length bits)) half ∙ word_bits-word_of bits)
word_bits-word_of (false ∷ bits) =
    let half : (0 + 2 * word_of bits) / 2 ≡ word_of bits = omega arith in
    let even : (0 + 2 * word_of bits) % 2 ≡ 0 = omega arith in
    ap₂ (λ m rest. (m == 1) ∷ rest) even (ap (word_bits (length bits)) half ∙ word_bits-word_of bits)

-- the number 0 has no bit
pub word_bits-zeros : (count : ℕ) → word_bits count 0 ≡ replicate count false
unfolding word_bits
word_bits-zeros zero = refl
word_bits-zeros (suc count) = ap (λ bits. false ∷ bits) (word_bits-zeros count)

-- a number with one bit other than another's
pub word_bits-other : (count a b col : ℕ) (bit : Bool) → col < count → (b / 2 ^ col % 2 == 1) ≡ bit → ((i : ℕ) → i < count → i ≢ col → b / 2 ^ i % 2 ≡ a / 2 ^ i % 2) → word_bits count b ≡ set (word_bits count a) col bit
word_bits-other count a b col bit within here others =
    let wide : length (word_bits count a) ≡ count = length-word_bits count a in
    let same_length : length (word_bits count b) ≡ length (set (word_bits count a) col bit) = length-word_bits count b ∙ sym (length-set (word_bits count a) col bit ∙ wide) in
    ext_get_or false (word_bits count b) (set (word_bits count a) col bit) same_length (λ i inside.
    let small : i < count = omega (arith, length-word_bits count b) in
    get_or-word_bits count b i small ∙ elim (cases_eq i col) [
      | inl e ↦ subst (λ (k : ℕ). (b / 2 ^ k % 2 == 1) ≡ get_or (set (word_bits count a) col bit) k false) (sym e) (here ∙ sym (get_or-set_same (word_bits count a) col bit false (omega (arith, wide))))
      | inr ne ↦ ap (λ m. m == 1) (others i small ne) ∙ sym (get_or-word_bits count a i small) ∙ sym (get_or-set_other (word_bits count a) col i bit false ne)
    ])

-- `n | 1 << col` has the bit
pub word_bits-set : (count n col : ℕ) → count ≤ 64 → col < count → word_bits count (bit_or n (1 * 2 ^ col % 2 ^ 64)) ≡ set (word_bits count n) col true
word_bits-set count n col short within =
    let place : col < 64 = omega arith in
    word_bits-other count n (bit_or n (1 * 2 ^ col % 2 ^ 64)) col true within (ap (λ m. m == 1) (bit_at_set_same w64 n col place)) (λ i small ne. bit_at_set_other w64 n col place i ne)

-- `n & !(1 << col)` lacks it
pub word_bits-clear : (count n col : ℕ) → count ≤ 64 → col < count → word_bits count (bit_and n (2 ^ 64 - 1 - 1 * 2 ^ col % 2 ^ 64)) ≡ set (word_bits count n) col false
word_bits-clear count n col short within =
    let place : col < 64 = omega arith in
    word_bits-other count n (bit_and n (2 ^ 64 - 1 - 1 * 2 ^ col % 2 ^ 64)) col false within (ap (λ m. m == 1) (bit_at_clear_same w64 n col place)) (λ i small ne. bit_at_clear_other w64 n col place i (omega arith) ne)

-- `n | 1 << col` stays below the width
pub set-lt : (count n col : ℕ) → count ≤ 64 → col < count → n < 2 ^ count → bit_or n (1 * 2 ^ col % 2 ^ 64) < 2 ^ count
set-lt count n col short within small =
    let one : 1 * 2 ^ col % 2 ^ 64 ≡ 2 ^ col = one_shl col 64 (omega arith) in
    rw one (or_lt count n (2 ^ col) small (pow_below col count within))

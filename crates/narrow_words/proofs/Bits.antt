-- Numbers that are made bit by bit, the highest first.
use Rattle.std.proofs.Common.{◌≡◌, ℕ, zero, suc, ◌+◌, ◌-◌, ◌*◌, ◌/◌, ◌%◌, ◌==◌, ◌^◌, ◌<◌, ◌≤◌, Bool, true, false, cond, refl, sym, ap, ◌∙◌, subst, arith, pow-suc}
use mir.Val.{bool_byte}
use Rattle.std.proofs.Math.Nat.{div-div-eq-div-mul, pow-le-pow_right}
use Rattle.narrow_words.specs.Narrow.{share, bit_at}

-- a number of fewer than 16 bits has room for one more
pub room : (k n : ℕ) → k < 16 → n < 2 ^ k → n < 32768
room k n few small = let positive : 0 < 2 = omega arith in let most : 2 ^ k ≤ 2 ^ 15 = pow-le-pow_right positive {i = k} {j = 15} (omega arith) in omega (arith, small, most)

-- a bit as a number
pub bool_byte-is : (bit : Bool) → bool_byte bit ≡ cond bit 1 0
bool_byte-is true = refl
bool_byte-is false = refl

pub bool_byte-small : (bit : Bool) → bool_byte bit ≤ 1
bool_byte-small true = omega arith
bool_byte-small false = omega arith

-- a number with one more bit, the lowest
abbrev pub with_bit : ℕ → Bool → ℕ
with_bit n bit = 2 * n + cond bit 1 0

pub with_bit-small : (k n : ℕ) (bit : Bool) → n < 2 ^ k → with_bit n bit < 2 ^ (k + 1)
with_bit-small k n true small = let next : k + 1 ≡ suc k = omega arith in rw next (omega (arith, small, pow-suc 2 k))
with_bit-small k n false small = let next : k + 1 ≡ suc k = omega arith in rw next (omega (arith, small, pow-suc 2 k))

pub with_bit-first : (n : ℕ) (bit : Bool) → bit_at (with_bit n bit) 0 ≡ bit
with_bit-first n true = let odd : (2 * n + 1) / 1 % 2 ≡ 1 = omega arith in ap (λ r. r == 1) odd
with_bit-first n false = let even : (2 * n + 0) / 1 % 2 ≡ 0 = omega arith in ap (λ r. r == 1) even

half : (n : ℕ) (bit : Bool) → with_bit n bit / 2 ≡ n
half n true = omega arith
half n false = omega arith

pub with_bit-other : (n : ℕ) (bit : Bool) (b : ℕ) → bit_at (with_bit n bit) (suc b) ≡ bit_at n b
with_bit-other n bit b =
    let moved : with_bit n bit / 2 ^ suc b ≡ n / 2 ^ b =
    sym (div-div-eq-div-mul (with_bit n bit) 2 (2 ^ b) ∙ ap (λ d. with_bit n bit / d) (let twice : 2 * 2 ^ b ≡ 2 ^ suc b = omega (arith, pow-suc 2 b) in twice))
    ∙ ap (λ h. h / 2 ^ b) (half n bit) in
    ap (λ r. r % 2 == 1) moved

-- The number so far has the highest k bits of all.
pub record HasBits (count : ℕ) (bit : ℕ → Bool) (k n : ℕ) : Type 0 where
  pub small : n < 2 ^ k
  pub each : (b : ℕ) → b < k → bit_at n b ≡ bit (count - k + b)

pub no_bits : (count : ℕ) (bit : ℕ → Bool) → HasBits count bit 0 0
no_bits count bit = record { small = omega arith; each = λ b less. absurd (omega (arith, less)) }

more-at : (count : ℕ) (bit : ℕ → Bool) (k n : ℕ) → k < count → HasBits count bit k n → (b : ℕ) → b < k + 1
    → bit_at (with_bit n (bit (count - 1 - k))) b ≡ bit (count - (k + 1) + b)
more-at count bit k n inside so_far zero less =
    with_bit-first n (bit (count - 1 - k)) ∙ ap bit (let same : count - 1 - k ≡ count - (k + 1) + 0 = omega arith in same)
more-at count bit k n inside so_far (suc b) less =
    with_bit-other n (bit (count - 1 - k)) b ∙ (so_far.each b (omega (arith, less))
    ∙ ap bit (let same : count - k + b ≡ count - (k + 1) + suc b = omega (arith, inside) in same))

-- one more
pub more_bits : (count : ℕ) (bit : ℕ → Bool) (k n : ℕ) (next : Bool) (later : ℕ) → k < count → HasBits count bit k n
    → next ≡ bit (count - 1 - k) → later ≡ with_bit n next → HasBits count bit (k + 1) later
more_bits count bit k n next later inside so_far is made =
    let whole : later ≡ with_bit n (bit (count - 1 - k)) = made ∙ ap (with_bit n) is in
    record {
      small = subst (λ m. m < 2 ^ (k + 1)) (sym made) (with_bit-small k n next so_far.small);
      each = λ b less. ap (λ m. bit_at m b) whole ∙ more-at count bit k n inside so_far b less;
    }

-- all of them
pub all_bits : (count : ℕ) (bit : ℕ → Bool) (k n : ℕ) → count ≤ k → k ≤ count → HasBits count bit k n → (b : ℕ) → b < count → bit_at n b ≡ bit b
all_bits count bit k n past within has b less =
    has.each b (omega (arith, less, past)) ∙ ap bit (let same : count - k + b ≡ b = omega (arith, past) in same)

-- ---- places of bits

-- from a bit of the narrow word of high part 0, the bit of each other narrow word is still inside the word
pub high-inside : (mode high b : ℕ) → mode < 4 → high < share mode → b < 16 → b % share mode ≡ 0 → b + high < 16
high-inside zero high b few less inside even = let least : high < 1 = less in omega (arith, least, inside)
high-inside (suc zero) high b few less inside even = let least : high < 2 = less in let by : b % 2 ≡ 0 = even in omega (arith, least, inside, by)
high-inside (suc (suc zero)) high b few less inside even = let least : high < 4 = less in let by : b % 4 ≡ 0 = even in omega (arith, least, inside, by)
high-inside (suc (suc (suc zero))) high b few less inside even = let least : high < 8 = less in let by : b % 8 ≡ 0 = even in omega (arith, least, inside, by)
high-inside (suc (suc (suc (suc mode)))) high b few less inside even = absurd (omega (arith, few))

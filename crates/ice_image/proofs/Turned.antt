-- Words whose bits are turned, the last first.
use Rattle.std.proofs.Common.{◌≡◌, ℕ, ◌+◌, ◌-◌, ◌/◌, ◌^◌, ◌<◌, ◌≤◌, ◌==◌, ap, ◌∙◌, arith}
use Rattle.std.proofs.lemmas.Nat.{shr_below}
use Rattle.std.specs.Int.{bit_at}
use Rattle.bit_plane.proofs.Parts.{bit_at-high}
use Rattle.ice_image.specs.Bits.{number_bit}

-- the low bits of a word, turned
pub turned-bit : (n reversed count k : ℕ) → ((k : ℕ) → k < 64 → bit_at reversed k ≡ bit_at n (63 - k)) → count ≤ 64 → k < count → number_bit (reversed / 2 ^ (64 - count)) k ≡ number_bit n (count - 1 - k)
turned-bit n reversed count k bits few within =
    let e : 63 - (64 - count + k) ≡ count - 1 - k = omega arith in
    ap (λ m. m == 1) (bit_at-high reversed (64 - count) k ∙ bits (64 - count + k) (omega arith) ∙ ap (bit_at n) e)

-- are no more
pub turned-small : (n count : ℕ) → count ≤ 64 → n < 2 ^ 64 → n / 2 ^ (64 - count) < 2 ^ count
turned-small n count few small =
    let e : count + (64 - count) ≡ 64 = omega arith in
    shr_below n count (64 - count) (omega (arith, ap (λ k. 2 ^ k) e))

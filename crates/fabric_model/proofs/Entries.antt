-- Entries of LUTs by the bits of their words.
use Rattle.std.proofs.Common.{◌≡◌, ℕ, ◌/◌, ◌%◌, ◌^◌, ◌<◌, ◌≤◌, ◌==◌, false, bit_and, sym, ap, ◌∙◌, arith}
use Rattle.std.proofs.lemmas.List.{get_or_past}
use Rattle.std.proofs.lemmas.Nat.Bits.{shr_and_one}
use Rattle.bit_plane.specs.BitList.{word_bits}
use Rattle.bit_plane.proofs.Words.{length-word_bits, get_or-word_bits}
use Rattle.fabric_model.specs.Luts.{entry_of}

-- entry n is the bit of value 2^n
pub entry_within : (word n : ℕ) → n < 16 → (bit_and (word / 2 ^ n) 1 == 1) ≡ entry_of word n
entry_within word n within = ap (λ m. m == 1) (shr_and_one word n) ∙ sym (get_or-word_bits 16 word n within)

-- past the last all entries are 0
pub entry_past : (word n : ℕ) → 16 ≤ n → entry_of word n ≡ false
entry_past word n past = get_or_past (word_bits 16 word) n false (omega (arith, length-word_bits 16 word))

-- whether bit k of a number is 0
pub clear_bit : (n k : ℕ) → (bit_and (n / 2 ^ k) 1 == 0) ≡ (n / 2 ^ k % 2 == 0)
clear_bit n k = ap (λ m. m == 0) (shr_and_one n k)

-- whether bit k of a number is 1
pub set_bit : (n k : ℕ) → (bit_and (n / 2 ^ k) 1 == 1) ≡ (n / 2 ^ k % 2 == 1)
set_bit n k = ap (λ m. m == 1) (shr_and_one n k)

-- The register holds the sum of powers.
use Rattle.std.proofs.Common.{◌≡◌, ℕ, zero, suc, ◌+◌, ◌-◌, ◌*◌, ◌%◌, ◌^◌, ◌<◌, ◌≤◌, Bool, true, false, List, [], ◌∷◌, ◌++◌, length, get_or, take, refl, sym, ap, ◌∙◌, arith, inl, inr, ◌⊎◌}
use Rattle.std.proofs.lemmas.Bool.{cases_lt, lt-ltb, le-ltb}
use Rattle.std.proofs.lemmas.Nat.{xor_block, xor_lt, xor_comm}
use Rattle.std.proofs.lemmas.List.{length-append, append-nil, take_more}
use Rattle.std.proofs.Common.{append_assoc}
use Rattle.std.proofs.lemmas.List.Concat.{flat_map-append}
use Rattle.bit_plane.specs.BitList.{byte_bits, bits_of}
use Rattle.std.specs.Int.Bits.{xor_assoc, xor_self, xor_zero_r}
use Rattle.std.specs.Prelude.{bit_xor}
use Rattle.bin_stream.specs.CheckValue.{doubled, power, powers_from, sum_of, check_value}
use Rattle.bin_stream.specs.inside.Register.{entered, entered_all}

-- nothing yet: the register starts with all ones
pub check_value-nil : check_value [] ≡ 65535
unfolding check_value powers_from power doubled sum_of
check_value-nil = refl

-- nothing doubled is nothing
doubled_nothing : 0 ≡ doubled 0
unfolding doubled
doubled_nothing = refl

-- a remainder without x^15 doubles as a number
pub doubled_low : (a : ℕ) → a < 32768 → doubled a ≡ 2 * a
unfolding doubled
doubled_low a low = rw (lt-ltb a 32768 low) refl

-- a remainder with x^15 becomes one with x^16
doubled_high : (r : ℕ) → r < 32768 → doubled (1 * 2 ^ 15 + r) ≡ bit_xor (2 * r) 4129
unfolding doubled
doubled_high r low =
    let high : 32768 ≤ 1 * 2 ^ 15 + r = omega arith in
    let less : 2 * (1 * 2 ^ 15 + r) - 65536 ≡ 2 * r = omega arith in
    rw (le-ltb (1 * 2 ^ 15 + r) 32768 high, less) refl

xor_twice : (a b : ℕ) → bit_xor (2 * a) (2 * b) ≡ 2 * bit_xor a b
xor_twice a b =
    let left : 2 * a ≡ a * 2 ^ 1 + 0 = omega arith in
    let right : 2 * b ≡ b * 2 ^ 1 + 0 = omega arith in
    rw (left, right) (xor_block 1 a b 0 0 (omega arith) (omega arith) ∙ omega arith)

-- a remainder is below x^15, or has x^15 and a rest
split_top : (a : ℕ) → a < 65536 → (a < 32768) ⊎ ((r : ℕ) × (r < 32768) × (a ≡ 1 * 2 ^ 15 + r))
split_top a in_range =
    elim (cases_lt a 32768) [
      | inl low ↦ inl low
      | inr high ↦ inr (a - 32768, omega arith, omega arith)
    ]

-- x^15 in the first alone
xor_high_low : (r b : ℕ) → r < 32768 → b < 32768 → doubled (bit_xor (1 * 2 ^ 15 + r) b) ≡ bit_xor (doubled (1 * 2 ^ 15 + r)) (doubled b)
xor_high_low r b r_low b_low =
    let b-is : b ≡ 0 * 2 ^ 15 + b = omega arith in
    let joined : bit_xor (1 * 2 ^ 15 + r) b ≡ 1 * 2 ^ 15 + bit_xor r b = ap (bit_xor (1 * 2 ^ 15 + r)) b-is ∙ xor_block 15 1 0 r b r_low b_low in
    let low : bit_xor r b < 32768 = xor_lt 15 r b r_low b_low in
    let left : doubled (bit_xor (1 * 2 ^ 15 + r) b) ≡ bit_xor (bit_xor (2 * r) (2 * b)) 4129 =
    ap doubled joined ∙ doubled_high (bit_xor r b) low ∙ ap (λ n. bit_xor n 4129) (sym (xor_twice r b)) in
    let swapped : bit_xor (bit_xor (2 * r) (2 * b)) 4129 ≡ bit_xor (bit_xor (2 * r) 4129) (2 * b) =
    xor_assoc (2 * r) (2 * b) 4129 ∙ ap (bit_xor (2 * r)) (xor_comm (2 * b) 4129) ∙ sym (xor_assoc (2 * r) 4129 (2 * b)) in
    left ∙ swapped ∙ ap (λ n. bit_xor n (2 * b)) (sym (doubled_high r r_low)) ∙ ap (bit_xor (doubled (1 * 2 ^ 15 + r))) (sym (doubled_low b b_low))

-- x^15 in both
xor_high_high : (r s : ℕ) → r < 32768 → s < 32768 → doubled (bit_xor (1 * 2 ^ 15 + r) (1 * 2 ^ 15 + s)) ≡ bit_xor (doubled (1 * 2 ^ 15 + r)) (doubled (1 * 2 ^ 15 + s))
xor_high_high r s r_low s_low =
    let joined : bit_xor (1 * 2 ^ 15 + r) (1 * 2 ^ 15 + s) ≡ bit_xor r s = xor_block 15 1 1 r s r_low s_low ∙ omega arith in
    let low : bit_xor r s < 32768 = xor_lt 15 r s r_low s_low in
    let left : doubled (bit_xor (1 * 2 ^ 15 + r) (1 * 2 ^ 15 + s)) ≡ bit_xor (2 * r) (2 * s) =
    ap doubled joined ∙ doubled_low (bit_xor r s) low ∙ sym (xor_twice r s) in
    let cancelled : bit_xor (bit_xor (2 * r) 4129) (bit_xor (2 * s) 4129) ≡ bit_xor (2 * r) (2 * s) =
    xor_assoc (2 * r) 4129 (bit_xor (2 * s) 4129)
    ∙ ap (bit_xor (2 * r)) (xor_comm 4129 (bit_xor (2 * s) 4129) ∙ xor_assoc (2 * s) 4129 4129 ∙ ap (bit_xor (2 * s)) (xor_self 4129) ∙ xor_zero_r (2 * s)) in
    left ∙ sym cancelled ∙ ap (λ n. bit_xor n (bit_xor (2 * s) 4129)) (sym (doubled_high r r_low)) ∙ ap (bit_xor (doubled (1 * 2 ^ 15 + r))) (sym (doubled_high s s_low))

xor_low_low : (a b : ℕ) → a < 32768 → b < 32768 → doubled (bit_xor a b) ≡ bit_xor (doubled a) (doubled b)
xor_low_low a b a_low b_low =
    doubled_low (bit_xor a b) (xor_lt 15 a b a_low b_low) ∙ sym (xor_twice a b)
    ∙ ap (λ n. bit_xor n (2 * b)) (sym (doubled_low a a_low)) ∙ ap (bit_xor (doubled a)) (sym (doubled_low b b_low))

-- the doubled sum is the sum of the doubled
pub doubled-xor : (a b : ℕ) → a < 65536 → b < 65536 → doubled (bit_xor a b) ≡ bit_xor (doubled a) (doubled b)
doubled-xor a b a_in b_in =
    elim (split_top a a_in) [
      | inl a_low ↦ elim (split_top b b_in) [
        | inl b_low ↦ xor_low_low a b a_low b_low
        | inr s ↦ rw (s.2, xor_comm a (1 * 2 ^ 15 + s.0), xor_comm (doubled a) (doubled (1 * 2 ^ 15 + s.0))) (xor_high_low s.0 a s.1 a_low)
      ]
      | inr r ↦ elim (split_top b b_in) [
        | inl b_low ↦ rw r.2 (xor_high_low r.0 b r.1 b_low)
        | inr s ↦ rw (r.2, s.2) (xor_high_high r.0 s.0 r.1 s.1)
      ]
    ]

-- a remainder stays one
pub doubled-below : (a : ℕ) → a < 65536 → doubled a < 65536
doubled-below a in_range =
    elim (split_top a in_range) [
      | inl low ↦ rw (doubled_low a low) (omega arith)
      | inr r ↦ rw (r.2, doubled_high r.0 r.1) (xor_lt 16 (2 * r.0) 4129 (omega arith) (omega arith))
    ]

pub power-below : (k : ℕ) → power k < 65536
unfolding power
power-below zero = omega arith
power-below (suc k) = doubled-below (power k) (power-below k)

pub powers_from-below : (n count : ℕ) → powers_from n count < 65536
unfolding powers_from
powers_from-below n zero = omega arith
powers_from-below n (suc count) = xor_lt 16 (power (n + count)) (powers_from n count) (power-below (n + count)) (powers_from-below n count)

pub sum_of-below : (bits : List Bool) → sum_of bits < 65536
unfolding sum_of
sum_of-below [] = omega arith
sum_of-below (false ∷ bits) = sum_of-below bits
sum_of-below (true ∷ bits) = xor_lt 16 (power (16 + length bits)) (sum_of bits) (power-below (16 + length bits)) (sum_of-below bits)

pub check_value-below : (bits : List Bool) → check_value bits < 65536
unfolding check_value
check_value-below bits = xor_lt 16 (powers_from (length bits) 16) (sum_of bits) (powers_from-below (length bits) 16) (sum_of-below bits)

-- with one bit more each power is one higher
powers_from-suc : (n count : ℕ) → powers_from (suc n) count ≡ doubled (powers_from n count)
unfolding powers_from power
powers_from-suc n zero = doubled_nothing
powers_from-suc n (suc count) =
    let higher : suc n + count ≡ suc (n + count) = omega arith in
    ap (λ k. bit_xor (power k) (powers_from (suc n) count)) higher
    ∙ ap (bit_xor (doubled (power (n + count)))) (powers_from-suc n count)
    ∙ sym (doubled-xor (power (n + count)) (powers_from n count) (power-below (n + count)) (powers_from-below n count))

-- what a bit adds at the end
pub last_power : Bool → ℕ
last_power false = 0
last_power true = power 16

pub last_power-below : (bit : Bool) → last_power bit < 65536
unfolding last_power
last_power-below false = omega arith
last_power-below true = power-below 16

-- a bit more at the end doubles the sum, and adds its own power
sum_of-push : (bits : List Bool) (bit : Bool) → sum_of (bits ++ bit ∷ []) ≡ bit_xor (doubled (sum_of bits)) (last_power bit)
unfolding sum_of last_power power
sum_of-push [] false = ap (λ n. bit_xor n 0) doubled_nothing
sum_of-push [] true = xor_comm (power 16) 0 ∙ ap (λ n. bit_xor n (power 16)) doubled_nothing
sum_of-push (false ∷ bits) bit = sum_of-push bits bit
sum_of-push (true ∷ bits) bit =
    let longer : 16 + length (bits ++ bit ∷ []) ≡ suc (16 + length bits) = omega (arith, length-append bits (bit ∷ [])) in
    ap (λ k. bit_xor (power k) (sum_of (bits ++ bit ∷ []))) longer
    ∙ ap (bit_xor (doubled (power (16 + length bits)))) (sum_of-push bits bit)
    ∙ sym (xor_assoc (doubled (power (16 + length bits))) (doubled (sum_of bits)) (last_power bit))
    ∙ ap (λ n. bit_xor n (last_power bit)) (sym (doubled-xor (power (16 + length bits)) (sum_of bits) (power-below (16 + length bits)) (sum_of-below bits)))

-- the register doubles and adds the last power
entered_low : (value : ℕ) (bit : Bool) → value < 32768 → entered value bit ≡ bit_xor (2 * value) (last_power bit)
unfolding last_power power doubled
entered_low value false low =
    let shifted : 2 * value % 65536 ≡ 2 * value = omega arith in
    rw (lt-ltb value 32768 low, shifted, xor_zero_r (2 * value)) refl
entered_low value true low =
    let shifted : 2 * value % 65536 ≡ 2 * value = omega arith in
    rw (lt-ltb value 32768 low, shifted) refl

entered_high : (r : ℕ) (bit : Bool) → r < 32768 → entered (1 * 2 ^ 15 + r) bit ≡ bit_xor (bit_xor (2 * r) 4129) (last_power bit)
unfolding last_power power doubled
entered_high r false low =
    let high : 32768 ≤ 1 * 2 ^ 15 + r = omega arith in
    let shifted : 2 * (1 * 2 ^ 15 + r) % 65536 ≡ 2 * r = omega arith in
    rw (le-ltb (1 * 2 ^ 15 + r) 32768 high, shifted, xor_zero_r (bit_xor (2 * r) 4129)) refl
entered_high r true low =
    let high : 32768 ≤ 1 * 2 ^ 15 + r = omega arith in
    let shifted : 2 * (1 * 2 ^ 15 + r) % 65536 ≡ 2 * r = omega arith in
    let cancelled : bit_xor (bit_xor (2 * r) 4129) 4129 ≡ 2 * r = xor_assoc (2 * r) 4129 4129 ∙ ap (bit_xor (2 * r)) (xor_self 4129) ∙ xor_zero_r (2 * r) in
    rw (le-ltb (1 * 2 ^ 15 + r) 32768 high, shifted, cancelled) refl

pub entered-is : (value : ℕ) (bit : Bool) → value < 65536 → entered value bit ≡ bit_xor (doubled value) (last_power bit)
entered-is value bit in_range =
    elim (split_top value in_range) [
      | inl low ↦ entered_low value bit low ∙ ap (λ n. bit_xor n (last_power bit)) (sym (doubled_low value low))
      | inr r ↦ rw (r.2, doubled_high r.0 r.1) (entered_high r.0 bit r.1)
    ]

-- the check value with a bit more at the end is what the register holds when that bit has entered
pub check_value-push : (bits : List Bool) (bit : Bool) → check_value (bits ++ bit ∷ []) ≡ entered (check_value bits) bit
unfolding check_value
check_value-push bits bit =
    let n = length bits in
    let longer : length (bits ++ bit ∷ []) ≡ suc n = omega (arith, length-append bits (bit ∷ [])) in
    ap (λ k. bit_xor (powers_from k 16) (sum_of (bits ++ bit ∷ []))) longer
    ∙ ap (λ p. bit_xor p (sum_of (bits ++ bit ∷ []))) (powers_from-suc n 16)
    ∙ ap (bit_xor (doubled (powers_from n 16))) (sum_of-push bits bit)
    ∙ sym (xor_assoc (doubled (powers_from n 16)) (doubled (sum_of bits)) (last_power bit))
    ∙ ap (λ n. bit_xor n (last_power bit)) (sym (doubled-xor (powers_from n 16) (sum_of bits) (powers_from-below n 16) (sum_of-below bits)))
    ∙ sym (entered-is (check_value bits) bit (check_value-below bits))

-- the same for more bits
pub check_value-append : (bits more : List Bool) → check_value (bits ++ more) ≡ entered_all (check_value bits) more
check_value-append bits [] = ap check_value (append-nil bits)
check_value-append bits (bit ∷ more) =
    ap check_value (sym (append_assoc bits (bit ∷ []) more))
    ∙ check_value-append (bits ++ bit ∷ []) more
    ∙ ap (λ value. entered_all value more) (check_value-push bits bit)

-- the register after all bits, from its start on
pub entered_all-from_start : (bits : List Bool) → entered_all 65535 bits ≡ check_value bits
entered_all-from_start bits = ap (λ value. entered_all value bits) (sym check_value-nil) ∙ sym (check_value-append [] bits)

pub entered_all-append : (value : ℕ) (bits more : List Bool) → entered_all value (bits ++ more) ≡ entered_all (entered_all value bits) more
entered_all-append value [] more = refl
entered_all-append value (bit ∷ bits) more = entered_all-append (entered value bit) bits more

-- the register after one byte more
pub entered_all-byte : (value : ℕ) (bytes : List ℕ) (k : ℕ) → k < length bytes → entered_all value (bits_of (take (k + 1) bytes)) ≡ entered_all (entered_all value (bits_of (take k bytes))) (byte_bits (get_or bytes k 0))
entered_all-byte value bytes k lt =
    let byte = get_or bytes k 0 in
    ap (λ taken. entered_all value (bits_of taken)) (take_more bytes k 0 lt)
    ∙ ap (entered_all value) (flat_map-append byte_bits (take k bytes) (byte ∷ []))
    ∙ entered_all-append value (bits_of (take k bytes)) (byte_bits byte ++ [])
    ∙ ap (entered_all (entered_all value (bits_of (take k bytes)))) (append-nil (byte_bits byte))

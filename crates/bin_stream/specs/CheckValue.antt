-- The check value of bits, the CRC of Project IceStorm, 'Bitstream File Format Documentation': the remainder of the bits, as a polynomial
-- over GF(2), after division by x^16 + x^12 + x^5 + 1. Sixteen zeros are appended to the bits, and the first sixteen of all these
-- bits are inverted. The remainder is a sum of powers, and the sum is the exclusive or.
use Rattle.std.specs.Prelude.{ℕ, zero, suc, ◌+◌, ◌-◌, ◌*◌, Bool, true, false, List, [], ◌∷◌, length, bit_xor, nat_lt, if◌then◌else◌}

-- a remainder times x: if x^16 comes up, x^12 + x^5 + 1 takes its place
unfoldable pub doubled : ℕ → ℕ
doubled n = if nat_lt n 32768 then 2 * n else bit_xor (2 * n - 65536) 0x1021

-- the remainder of x^k: its coefficients are the bits of the number
unfoldable pub power : ℕ → ℕ
power zero = 1
power (suc k) = doubled (power k)

-- the sum of `count` powers from x^n on
unfoldable pub powers_from : ℕ → ℕ → ℕ
powers_from n zero = 0
powers_from n (suc count) = bit_xor (power (n + count)) (powers_from n count)

-- the sum of x^(16 + k) over the bits that are 1, k being how many bits follow
unfoldable pub sum_of : List Bool → ℕ
sum_of [] = 0
sum_of (false ∷ bits) = sum_of bits
sum_of (true ∷ bits) = bit_xor (power (16 + length bits)) (sum_of bits)

-- The check value of bits: the sum for the inverted start, sixteen powers from the number of bits on, and the bits' own.
unfoldable pub check_value : List Bool → ℕ
check_value bits = bit_xor (powers_from (length bits) 16) (sum_of bits)

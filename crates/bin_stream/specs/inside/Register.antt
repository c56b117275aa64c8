-- The check value in one register, as a shift register computes it: what happens if a bit enters.
use Rattle.std.specs.Prelude.{ℕ, ◌*◌, ◌%◌, Bool, true, false, not, List, [], ◌∷◌, bit_xor, nat_lt, if◌then◌else◌}

-- whether a bit differs from another
abbrev pub differs : Bool → Bool → Bool
differs true bit = not bit
differs false bit = bit

-- the register shifts up by one; if the bit differs from the one that leaves at the top, the divisor is XORed into it
abbrev pub entered : ℕ → Bool → ℕ
entered value bit =
    let shifted = 2 * value % 65536 in
    if differs (not (nat_lt value 32768)) bit then bit_xor shifted 0x1021 else shifted

-- bits enter one after the other
abbrev pub entered_all : ℕ → List Bool → ℕ
entered_all value [] = value
entered_all value (bit ∷ bits) = entered_all (entered value bit) bits

-- The definitions at small values, worked out by hand or known from outside.
use Rattle.std.proofs.Common.{◌≡◌, [], ◌∷◌, refl}
use Rattle.std.specs.Prelude.{codes}
use Rattle.bit_plane.specs.BitList.{bits_of}
use Rattle.bin_stream.specs.CheckValue.{doubled, power, powers_from, sum_of, check_value}

-- without a bit the check value is its start
check_value_of_nothing : check_value [] ≡ 0xFFFF
unfolding check_value sum_of powers_from power doubled
check_value_of_nothing = refl

-- the nine digits by which such check values are known
check_value_of_digits : check_value (bits_of (codes "123456789")) ≡ 0x29B1
unfolding check_value sum_of powers_from power doubled
check_value_of_digits = refl

-- a stream that holds nothing but the first byte of its check
check_value_of_check : check_value (bits_of (0x22 ∷ [])) ≡ 0xE5D0
unfolding check_value sum_of powers_from power doubled
check_value_of_check = refl

-- the command that resets the CRC
check_value_of_reset_command : check_value (bits_of (0x01 ∷ 0x05 ∷ [])) ≡ 0x7E9B
unfolding check_value sum_of powers_from power doubled
check_value_of_reset_command = refl

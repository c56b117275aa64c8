-- The definitions at small streams, worked out by hand. Layouts don't matter if a stream is refused.
use Rattle.std.proofs.Common.{◌≡◌, [], ◌∷◌, refl}
use Rattle.std.specs.Prelude.{Err}
use Rattle.index_search.specs.Places.{any_below, last_below, first_below, least_below}
use Rattle.layout_file.specs.declared.layouts.Layouts.{Layouts}
use Rattle.bin_stream.specs.CheckValue.{doubled, power, powers_from, sum_of, check_value}
use Rattle.bin_stream.specs.Commands.{spelled}
use Rattle.bin_stream.specs.State.{last_of, width_after, device_after, covered}
use Rattle.bin_stream.specs.Refusals.{fault_at}
use Rattle.bin_stream.specs.Front.{preamble_offset}
use Rattle.bin_stream.specs.Spelling.{commands_from, bin_read_of}
use Rattle.bin_stream.specs.declared.fault.BinCause.TheVariants.{NoPreamble, LongPayload, BadWidth, Check, BadRange, BadMode, NoDevice}

-- the empty input
nothing : (layouts : Layouts) → bin_read_of layouts [] ≡ Err (fault_at 0 NoPreamble)
unfolding least_below preamble_offset bin_read_of
nothing layouts = refl

-- a check that passes, and a wake-up without data
check_passes : (layouts : Layouts) → bin_read_of layouts (0x7E ∷ 0xAA ∷ 0x99 ∷ 0x7E ∷ 0x01 ∷ 0x05 ∷ 0x22 ∷ 0xE5 ∷ 0xD0 ∷ 0x01 ∷ 0x06 ∷ []) ≡ Err (fault_at 9 NoDevice)
unfolding any_below last_below first_below least_below doubled power powers_from sum_of check_value spelled last_of width_after device_after covered preamble_offset commands_from bin_read_of
check_passes layouts = refl

-- a check that doesn't
check_fails : (layouts : Layouts) → bin_read_of layouts (0x7E ∷ 0xAA ∷ 0x99 ∷ 0x7E ∷ 0x01 ∷ 0x05 ∷ 0x22 ∷ 0x00 ∷ 0x00 ∷ 0x01 ∷ 0x06 ∷ []) ≡ Err (fault_at 6 (Check 0x243A))
unfolding any_below last_below first_below least_below doubled power powers_from sum_of check_value spelled last_of width_after device_after covered preamble_offset commands_from bin_read_of
check_fails layouts = refl

-- data in a long spelling, before a width was given
data_without_width : (layouts : Layouts) → bin_read_of layouts (0x7E ∷ 0xAA ∷ 0x99 ∷ 0x7E ∷ 0x02 ∷ 0x00 ∷ 0x01 ∷ []) ≡ Err (fault_at 4 BadWidth)
unfolding any_below last_below first_below least_below doubled power powers_from sum_of check_value spelled last_of width_after device_after covered preamble_offset commands_from bin_read_of
data_without_width layouts = refl

-- rows of RAM, before a width was given: the planes of a device without RAM have no rows, so that no width is theirs
ram_without_width : (layouts : Layouts) → bin_read_of layouts (0x7E ∷ 0xAA ∷ 0x99 ∷ 0x7E ∷ 0x01 ∷ 0x03 ∷ []) ≡ Err (fault_at 4 BadWidth)
unfolding any_below last_below first_below least_below doubled power powers_from sum_of check_value spelled last_of width_after device_after covered preamble_offset commands_from bin_read_of
ram_without_width layouts = refl

five_bytes_of_payload : (layouts : Layouts) → bin_read_of layouts (0x7E ∷ 0xAA ∷ 0x99 ∷ 0x7E ∷ 0x05 ∷ 0x00 ∷ 0x00 ∷ 0x00 ∷ 0x00 ∷ 0x01 ∷ []) ≡ Err (fault_at 4 LongPayload)
unfolding any_below last_below first_below least_below doubled power powers_from sum_of check_value spelled last_of width_after device_after covered preamble_offset commands_from bin_read_of
five_bytes_of_payload layouts = refl

range_three : (layouts : Layouts) → bin_read_of layouts (0x7E ∷ 0xAA ∷ 0x99 ∷ 0x7E ∷ 0x51 ∷ 0x03 ∷ []) ≡ Err (fault_at 4 BadRange)
unfolding any_below last_below first_below least_below doubled power powers_from sum_of check_value spelled last_of width_after device_after covered preamble_offset commands_from bin_read_of
range_three layouts = refl

mode_sixteen : (layouts : Layouts) → bin_read_of layouts (0x7E ∷ 0xAA ∷ 0x99 ∷ 0x7E ∷ 0x92 ∷ 0x00 ∷ 0x10 ∷ []) ≡ Err (fault_at 4 BadMode)
unfolding any_below last_below first_below least_below doubled power powers_from sum_of check_value spelled last_of width_after device_after covered preamble_offset commands_from bin_read_of
mode_sixteen layouts = refl

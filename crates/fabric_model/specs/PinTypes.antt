-- The type of a pin (`SB_IO`, PIN_TYPE): when it drives its pad, what it drives it with, and what it takes of the pad.
use Rattle.std.specs.Prelude.{ℕ, ◌/◌, ◌%◌, ◌^◌, ◌==◌, Bool, true, false, codes, if◌then◌else◌}
use Rattle.bit_plane.specs.BitList.{word_of}
use Rattle.bit_plane.specs.Rows.{row_from}
use Rattle.plane_map.specs.declared.tile.TileKind.TheVariants.{Io}
use Rattle.ice_image.specs.Configuration.{Configuration}
use Rattle.chipdb_reader.specs.Database.{Database}
use Rattle.fabric_model.specs.declared.pin.PadDrive.{PadDrive}
use Rattle.fabric_model.specs.declared.pin.PadDrive.TheVariants as drive
use Rattle.fabric_model.specs.declared.pin.PadData.{PadData}
use Rattle.fabric_model.specs.declared.pin.PadData.TheVariants as sends
use Rattle.fabric_model.specs.declared.pin.PadInput.{PadInput}
use Rattle.fabric_model.specs.declared.pin.PadInput.TheVariants as takes
use Rattle.fabric_model.specs.On.{is_function_on}
use Rattle.fabric_model.specs.Nets.{with_number, ending_in}

-- bit k of pin n's type is the function `IOB_n.PINTYPE_k`
abbrev pub pintype_bit : Database → Configuration → ℕ → ℕ → ℕ → ℕ → Bool
pintype_bit db image x y n k = is_function_on db image Io x y (ending_in (with_number (codes "IOB_") n (codes ".PINTYPE_")) k)

-- the type of pin n: the number that its six bits form
unfoldable pub pintype_of : Database → Configuration → ℕ → ℕ → ℕ → ℕ
pintype_of db image x y n = word_of (row_from 6 (pintype_bit db image x y n))

-- bit k of a type
abbrev pub type_bit : ℕ → ℕ → Bool
type_bit pintype k = pintype / 2 ^ k % 2 == 1

-- when a pin drives its pad, by bits 5 and 4: never, always, if its output enable is 1, or if the register of its output enable is 1
abbrev pub drive_of : ℕ → PadDrive
drive_of pintype =
    if type_bit pintype 5 then (if type_bit pintype 4 then drive.ByRegister else drive.ByNet)
    else (if type_bit pintype 4 then drive.Always else drive.Never)

-- What it drives its pad with, by bits 3 and 2: `io_n/D_OUT_0`, the register of that, the inverse of the register, or that register and the
-- register of `io_n/D_OUT_1` in turn. If it never drives its pad, these bits mean nothing.
abbrev pub sends_of : ℕ → PadData
sends_of pintype =
    if type_bit pintype 3 then (if type_bit pintype 2 then sends.Inverted else sends.Plain)
    else (if type_bit pintype 2 then sends.Registered else sends.Double)

-- what `io_n/D_IN_0` is of the pad, by bits 1 and 0: the pad as it is, a register that takes the pad, or something that a latch may hold
abbrev pub takes_of : ℕ → PadInput
takes_of pintype = if type_bit pintype 1 then takes.Latched else (if type_bit pintype 0 then takes.Plain else takes.Registered)

-- ---- words

-- whether a pin ever drives its pad
abbrev pub ever_drives : PadDrive → Bool
ever_drives drive.Never = false
ever_drives drive.Always = true
ever_drives drive.ByNet = true
ever_drives drive.ByRegister = true

-- whether it drives its pad at times
abbrev pub drives_at_times : PadDrive → Bool
drives_at_times drive.Never = false
drives_at_times drive.Always = false
drives_at_times drive.ByNet = true
drives_at_times drive.ByRegister = true

abbrev pub is_by_register : PadDrive → Bool
is_by_register drive.Never = false
is_by_register drive.Always = false
is_by_register drive.ByNet = false
is_by_register drive.ByRegister = true

-- whether what it drives its pad with is made of registers
abbrev pub has_register : PadData → Bool
has_register sends.Plain = false
has_register sends.Registered = true
has_register sends.Inverted = true
has_register sends.Double = true

-- whether a LUT makes it of registers
abbrev pub has_table : PadData → Bool
has_table sends.Plain = false
has_table sends.Registered = false
has_table sends.Inverted = true
has_table sends.Double = true

abbrev pub is_double : PadData → Bool
is_double sends.Plain = false
is_double sends.Registered = false
is_double sends.Inverted = false
is_double sends.Double = true

abbrev pub takes_pad : PadInput → Bool
takes_pad takes.Plain = true
takes_pad takes.Registered = false
takes_pad takes.Latched = false
takes_pad takes.Nothing = false

abbrev pub takes_by_register : PadInput → Bool
takes_by_register takes.Plain = false
takes_by_register takes.Registered = true
takes_by_register takes.Latched = false
takes_by_register takes.Nothing = false

abbrev pub is_latched : PadInput → Bool
is_latched takes.Plain = false
is_latched takes.Registered = false
is_latched takes.Latched = true
is_latched takes.Nothing = false

-- whether the input side of the pin belongs to a PLL
abbrev pub is_of_pll : PadInput → Bool
is_of_pll takes.Plain = false
is_of_pll takes.Registered = false
is_of_pll takes.Latched = false
is_of_pll takes.Nothing = true

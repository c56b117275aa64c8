-- The one bitstream that is written for a configuration: a concatenation of commands. The commands are those of Project IceStorm,
-- 'Bitstream File Format Documentation'; their order is this project's choice.
use Rattle.std.specs.Prelude.{ℕ, ◌+◌, ◌-◌, ◌*◌, ◌/◌, Bool, List, [], ◌∷◌, ◌++◌, length, take, drop, flat_map, if◌then◌else◌, Option, None, Some}
use Rattle.std.specs.Int.{w16, to_be_bytes}
use Rattle.bit_plane.specs.BitList.{bits_of, bytes_of, bit_value}
use Rattle.bit_plane.specs.Rows.{Rows, flat}
use Rattle.plane_map.specs.Layout.{cram_width, cram_height, bram_width}
use Rattle.plane_map.specs.declared.device.DeviceName.{DeviceName}
use Rattle.ice_image.specs.Configuration.{Configuration, bank_rows}
use Rattle.ice_image.specs.declared.settings.Range.{Range}
use Rattle.ice_image.specs.declared.settings.Range.TheVariants.{Low, Medium, High}
use Rattle.ice_image.specs.declared.planes.PlaneKind.{PlaneKind}
use Rattle.ice_image.specs.declared.planes.PlaneKind.TheVariants.{Cram, Bram}
use Rattle.bin_stream.specs.CheckValue.{check_value}
use Rattle.bin_stream.specs.Commands.{Short, Data, kind_number, spelling, control_opcode, bank_opcode, check_opcode, range_opcode, width_opcode, height_opcode, offset_opcode, mode_opcode, reset_number, wake_up_number}
use Rattle.bin_stream.specs.State.{has_rows}
use Rattle.bin_stream.specs.Front.{preamble}

-- a number as two bytes, the high one first
abbrev pub two_bytes : ℕ → List ℕ
two_bytes n = to_be_bytes w16 n

abbrev pub range_number : Range → ℕ
range_number Low = 0
range_number Medium = 1
range_number High = 2

abbrev pub range_command : Range → List ℕ
range_command range = spelling (Short range_opcode (range_number range ∷ []))

abbrev pub reset_command : List ℕ
reset_command = spelling (Short control_opcode (reset_number ∷ []))

-- bit 5 of the mode enables warm boot, bit 0 keeps the flash awake
abbrev pub mode_command : Bool → Bool → List ℕ
mode_command warm_boot no_sleep = spelling (Short mode_opcode (0 ∷ (32 * bit_value warm_boot + bit_value no_sleep) ∷ []))

abbrev pub bank_command : ℕ → List ℕ
bank_command bank = spelling (Short bank_opcode (bank ∷ []))

-- the width is written minus one
abbrev pub width_command : ℕ → List ℕ
width_command width = spelling (Short width_opcode (two_bytes (width - 1)))

abbrev pub height_command : ℕ → List ℕ
height_command height = spelling (Short height_opcode (two_bytes height))

abbrev pub offset_command : ℕ → List ℕ
offset_command first = spelling (Short offset_opcode (two_bytes first))

-- the first byte of the check command: two bytes of payload follow, which are the check value after this byte
abbrev pub check_head : List ℕ
check_head = (16 * check_opcode + 2) ∷ []

abbrev pub wake_up_command : List ℕ
wake_up_command = spelling (Short control_opcode (wake_up_number ∷ []))

-- rows as bytes, row after row, the first of each eight bits as the most significant bit of a byte
abbrev pub row_bytes : Rows → List ℕ
row_bytes rows = bytes_of (length (flat rows) / 8) (flat rows)

-- rows as data
abbrev pub data_command : PlaneKind → Rows → List ℕ
data_command kind rows = spelling (Data kind (kind_number kind ∷ []) (row_bytes rows))

abbrev pub four_banks : List ℕ
four_banks = 0 ∷ 1 ∷ 2 ∷ 3 ∷ []

-- a bank's configuration plane, whole
abbrev pub cram_bank : List Rows → ℕ → List ℕ
cram_bank planes bank = bank_command bank ++ data_command Cram (bank_rows planes bank)

-- 128 rows of a bank's RAM plane, from a row on
abbrev pub bram_half : List Rows → ℕ → ℕ → List ℕ
bram_half planes bank first = offset_command first ++ data_command Bram (take 128 (drop first (bank_rows planes bank)))

-- a bank's RAM plane, in two halves
abbrev pub bram_bank : List Rows → ℕ → List ℕ
bram_bank planes bank = bank_command bank ++ bram_half planes bank 0 ++ bram_half planes bank 128

-- the configuration planes, with their size
unfoldable pub cram_bytes : DeviceName → List Rows → List ℕ
cram_bytes device planes =
    width_command (cram_width device) ++ height_command (cram_height device) ++ offset_command 0
    ++ flat_map (cram_bank planes) four_banks

-- the RAM planes, with the size of their halves
abbrev pub ram_bytes : DeviceName → List Rows → List ℕ
ram_bytes device planes =
    width_command (bram_width device) ++ height_command 128
    ++ flat_map (bram_bank planes) four_banks

-- the RAM planes, or nothing for a device without RAM
unfoldable pub bram_bytes : DeviceName → List Rows → List ℕ
bram_bytes device planes = if has_rows Bram device then ram_bytes device planes else []

-- what the two bytes of the check are computed from: everything after the reset, including the first byte of the check
unfoldable pub checked_bytes : Configuration → List ℕ
checked_bytes c =
    mode_command c.settings.warm_boot c.settings.no_sleep ++ cram_bytes c.layout.device c.cram ++ bram_bytes c.layout.device c.bram ++ check_head

-- a comment comes before the preamble, between FF 00 and 00 FF; each line ends with 00
abbrev pub comment_bytes : Option (List (List ℕ)) → List ℕ
comment_bytes None = []
comment_bytes (Some lines) = 0xFF ∷ 0 ∷ flat_map (λ line. line ++ 0 ∷ []) lines ++ 0 ∷ 0xFF ∷ []

-- the whole stream
unfoldable pub canonical_bytes : Configuration → List ℕ
canonical_bytes c =
    comment_bytes c.comment ++ preamble ++ range_command c.settings.range ++ reset_command
    ++ checked_bytes c ++ two_bytes (check_value (bits_of (checked_bytes c)))
    ++ wake_up_command ++ 0 ∷ []

-- What holds after a list of commands, by looking back in it (Project IceStorm, 'Bitstream File Format Documentation'; the start values and
-- how the device is found are this project's choice).
use Rattle.std.specs.Prelude.{ℕ, ◌+◌, ◌*◌, ◌/◌, Bool, false, not, ◌&&◌, List, length, take, drop, slice_get, ◌==◌, if◌then◌else◌, Option, Some, None}
use Rattle.index_search.specs.Places.{last_below, first_below}
use Rattle.plane_map.specs.declared.device.DeviceName.{DeviceName}
use Rattle.plane_map.specs.declared.device.DeviceName.TheVariants.{Lp384, Hx1k, Hx8k}
use Rattle.ice_image.specs.declared.planes.PlaneKind.{PlaneKind}
use Rattle.ice_image.specs.Planes.{plane_width, plane_height}
use Rattle.bin_stream.specs.Commands.{Command, Short, Data, number_of, spelled, is_reset, bank_opcode, range_opcode, width_opcode, height_opcode, offset_opcode, mode_opcode}

-- whether a command that isn't data has that opcode
abbrev pub has_opcode : ℕ → Option Command → Bool
has_opcode opcode (Some (Short other payload)) = other == opcode
has_opcode opcode command = false

-- the value of a command's payload
abbrev pub number_in : Option Command → ℕ
number_in None = 0
number_in (Some (Short opcode payload)) = number_of payload
number_in (Some (Data kind payload body)) = number_of payload

-- the index of the last command of an opcode
abbrev pub last_index : List Command → ℕ → Option ℕ
last_index commands opcode = last_below (length commands) (λ k. has_opcode opcode (slice_get commands k))

-- the value that a command gives, or the start value
abbrev pub given_or : List Command → Option ℕ → ℕ → ℕ
given_or commands None start = start
given_or commands (Some index) start = number_in (slice_get commands index)

-- the value that the last command of an opcode gives, or the start value
unfoldable pub last_of : List Command → ℕ → ℕ → ℕ
last_of commands opcode start = given_or commands (last_index commands opcode) start

abbrev pub bank_after : List Command → ℕ
bank_after commands = last_of commands bank_opcode 0

abbrev pub range_after : List Command → ℕ
range_after commands = last_of commands range_opcode 0

abbrev pub height_after : List Command → ℕ
height_after commands = last_of commands height_opcode 0

-- the row at which data begin after these commands
abbrev pub first_row_after : List Command → ℕ
first_row_after commands = last_of commands offset_opcode 0

abbrev pub mode_after : List Command → ℕ
mode_after commands = last_of commands mode_opcode 32

-- the width that a command gives: it is written minus one
abbrev pub width_given : List Command → Option ℕ → ℕ
width_given commands None = 0
width_given commands (Some index) = number_in (slice_get commands index) + 1

-- the width of data after these commands, or 0 if none was given
unfoldable pub width_after : List Command → ℕ
width_after commands = width_given commands (last_index commands width_opcode)

-- how many bytes data of a width and a height have
abbrev pub size_where : ℕ → ℕ → ℕ
size_where columns rows = columns * rows / 8

-- how many bytes data have after these commands
abbrev pub size_after : List Command → ℕ
size_after commands = size_where (width_after commands) (height_after commands)

-- ---- the device

-- whether a device's planes of a kind have rows: RAM planes have none if the device has no RAM
abbrev pub has_rows : PlaneKind → DeviceName → Bool
has_rows kind device = not (plane_height kind device == 0)

-- whether a device's planes of a kind have rows of a width
abbrev pub has_width : PlaneKind → DeviceName → ℕ → Bool
has_width kind device columns = has_rows kind device && (columns == plane_width kind device)

-- the device whose planes have rows of a width
abbrev pub device_with : PlaneKind → ℕ → Option DeviceName
device_with kind columns =
    if has_width kind Lp384 columns then Some Lp384
    else if has_width kind Hx1k columns then Some Hx1k
    else if has_width kind Hx8k columns then Some Hx8k
    else None

-- the device that a command fixes, if the commands before it are these
abbrev pub device_in : List Command → Option Command → Option DeviceName
device_in before (Some (Data kind payload body)) = device_with kind (width_after before)
device_in before command = None

-- the device: the one that the first data fix
unfoldable pub device_after : List Command → Option DeviceName
device_after commands = first_below (length commands) (λ k. device_in (take k commands) (slice_get commands k))

-- ---- the check value

-- the commands after an index, or all of them if there is no index
abbrev pub after_reset : List Command → Option ℕ → List Command
after_reset commands None = commands
after_reset commands (Some index) = drop (index + 1) commands

-- the bytes that the check value covers: those after the last reset, or all if there was none
unfoldable pub covered : List Command → List ℕ
covered commands = spelled (after_reset commands (last_below (length commands) (λ k. is_reset (slice_get commands k))))

-- What a decoder keeps of the commands so far, and how a command changes it.
use Rattle.std.specs.Prelude.{◌≡◌, ℕ, ◌+◌, ◌*◌, ◌%◌, ◌≤◌, Bool, false, ◌||◌, List, ◌==◌, if◌then◌else◌, Option, Some, None, Result, Ok, Err}
use Rattle.bit_plane.specs.BitList.{bits_of}
use Rattle.plane_map.specs.declared.device.DeviceName.{DeviceName}
use Rattle.ice_image.specs.declared.planes.PlaneKind.{PlaneKind}
use Rattle.bin_stream.specs.CheckValue.{check_value}
use Rattle.bin_stream.specs.inside.Register.{entered_all}
use Rattle.bin_stream.specs.Commands.{Command, control_opcode, bank_opcode, range_opcode, width_opcode, height_opcode, offset_opcode, mode_opcode, reset_number}
use Rattle.ice_image.specs.Planes.{plane_width, plane_height}
use Rattle.bin_stream.specs.State.{bank_after, range_after, height_after, first_row_after, mode_after, width_after, size_where, covered}
use Rattle.ice_image.specs.declared.settings.Settings.{Settings}
use Rattle.bin_stream.specs.Meaning.{settings_from}
use Rattle.bin_stream.specs.Refusals.{device_where, data_cause_where, gives_last_where, reached_in, short_cause_where}
use Rattle.bin_stream.specs.declared.fault.BinCause.{BinCause}

-- the values that commands give, the register of the check value, and whether the last row of a configuration plane was given
pub record Held : Type 0 where
  pub bank : ℕ
  pub width : ℕ
  pub height : ℕ
  pub first_row : ℕ
  pub range : ℕ
  pub mode : ℕ
  pub check : ℕ
  pub reached : Bool

-- what is kept after commands
abbrev pub held_after : List Command → Held
held_after commands = record {
  bank = bank_after commands;
  width = width_after commands;
  height = height_after commands;
  first_row = first_row_after commands;
  range = range_after commands;
  mode = mode_after commands;
  check = check_value (bits_of (covered commands));
  reached = reached_in commands;
}

-- how many bytes data have
abbrev pub size_by : Held → ℕ
size_by held = size_where held.width held.height

-- what is kept before the first command
abbrev pub held_first : Held
held_first = record { bank = 0; width = 0; height = 0; first_row = 0; range = 0; mode = 32; check = 65535; reached = false }

-- the cause that a test returns
abbrev pub refusal_of : {A : Type 0} → Result A BinCause → Option BinCause
refusal_of (Ok value) = None
refusal_of (Err cause) = Some cause

-- the settings that are kept
abbrev pub settings_by : Held → Settings
settings_by held = settings_from held.range held.mode

-- ---- commands that aren't data

-- what is wrong with a command, if the register is the one after it
abbrev pub short_cause_by : Held → ℕ → ℕ → Option BinCause
short_cause_by held opcode n = short_cause_where held.reached held.check opcode n

-- with bytes entered into the register
abbrev pub checked : Held → List ℕ → Held
checked held bytes = record held { check = entered_all held.check (bits_of bytes) }

abbrev pub after_control : Held → ℕ → Held
after_control held n = if n == reset_number then record held { check = 65535 } else held

-- what is kept after a command, if the register is the one after it
abbrev pub after_short : Held → ℕ → ℕ → Held
after_short held opcode n =
    if opcode == control_opcode then after_control held n
    else if opcode == bank_opcode then record held { bank = n }
    else if opcode == range_opcode then record held { range = n }
    else if opcode == width_opcode then record held { width = n + 1 }
    else if opcode == height_opcode then record held { height = n }
    else if opcode == offset_opcode then record held { first_row = n }
    else if opcode == mode_opcode then record held { mode = n }
    else held

-- ---- data

-- what is wrong with data, whether a device is fixed or not
abbrev pub data_cause_by : Held → Option DeviceName → PlaneKind → Option BinCause
data_cause_by held fixed kind =
    data_cause_where (device_where fixed kind held.width) kind held.first_row held.height held.width

-- whether data give the last row of a configuration plane
abbrev pub gives_last_by : Held → PlaneKind → Bool
gives_last_by held kind = gives_last_where kind held.first_row held.height held.width

-- data that a device's plane has room for
pub record Fits (device : DeviceName) (kind : PlaneKind) (held : Held) : Type 0 where
  pub columns : held.width ≡ plane_width kind device
  pub rows : held.first_row + held.height ≤ plane_height kind device
  pub whole : held.width * held.height % 8 ≡ 0

-- what is kept after data, which are spelled by these bytes
abbrev pub after_data : Held → PlaneKind → List ℕ → Held
after_data held kind bytes = record held {
  check = entered_all held.check (bits_of bytes);
  reached = held.reached || gives_last_by held kind;
}

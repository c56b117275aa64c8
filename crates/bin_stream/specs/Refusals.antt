-- What is wrong with a command, by the commands before it: the first cause that applies, in the order of the bytes.
use Rattle.std.specs.Prelude.{◌≡◌, ℕ, ◌+◌, ◌*◌, ◌/◌, ◌%◌, ◌<◌, Bool, true, false, not, ◌||◌, List, [], ◌∷◌, ◌++◌, length, take, drop, slice_get, nat_lt, ◌==◌, if◌then◌else◌, Option, Some, None}
use Rattle.index_search.specs.Places.{any_below, or_else}
use Rattle.bit_plane.specs.BitList.{bits_of}
use Rattle.plane_map.specs.Layout.{cram_height}
use Rattle.plane_map.specs.declared.device.DeviceName.{DeviceName}
use Rattle.ice_image.specs.declared.planes.PlaneKind.{PlaneKind}
use Rattle.ice_image.specs.declared.planes.PlaneKind.TheVariants.{Cram, Bram}
use Rattle.bin_stream.specs.CheckValue.{check_value}
use Rattle.bin_stream.specs.Commands.{Command, Short, Data, number_of, kind_number, spelling, control_opcode, bank_opcode, check_opcode, boot_address_opcode, range_opcode, width_opcode, height_opcode, offset_opcode, mode_opcode, reset_number, wake_up_number}
use Rattle.ice_image.specs.Planes.{plane_height}
use Rattle.bin_stream.specs.State.{height_after, first_row_after, width_after, size_after, has_width, device_with, device_after, covered}
use Rattle.bin_stream.specs.declared.fault.BinCause.{BinCause}
use Rattle.bin_stream.specs.declared.fault.BinCause.TheVariants.{Truncated, UnknownCommand, LongPayload, BadBank, BadWidth, BadHeight, DataEnd, Check, BadRange, BadMode, NoDevice}

-- a cause, if a test passes
abbrev pub cause_if : Bool → BinCause → Option BinCause
cause_if true cause = Some cause
cause_if false cause = None

-- ---- data

-- data of another width than the rows of the device's planes, or for a device whose planes have no rows
abbrev pub width_cause : PlaneKind → Option DeviceName → ℕ → Option BinCause
width_cause kind None columns = Some BadWidth
width_cause kind (Some device) columns = cause_if (not (has_width kind device columns)) BadWidth

-- whether data have no row, rows after the plane's last one, or a part of a byte
abbrev pub is_bad_height : PlaneKind → DeviceName → ℕ → ℕ → ℕ → Bool
is_bad_height kind device first rows columns = (rows == 0) || nat_lt (plane_height kind device) (first + rows) || not (columns * rows % 8 == 0)

abbrev pub height_cause : PlaneKind → Option DeviceName → ℕ → ℕ → ℕ → Option BinCause
height_cause kind None first rows columns = None
height_cause kind (Some device) first rows columns = cause_if (is_bad_height kind device first rows columns) BadHeight

-- the device of data: the one that earlier data fixed, or else the device whose planes have their width
abbrev pub device_where : Option DeviceName → PlaneKind → ℕ → Option DeviceName
device_where fixed kind columns = or_else fixed (device_with kind columns)

-- what is wrong with data of a device, by their first row, their height and their width
abbrev pub data_cause_where : Option DeviceName → PlaneKind → ℕ → ℕ → ℕ → Option BinCause
data_cause_where device kind first rows columns =
    or_else (width_cause kind device columns) (height_cause kind device first rows columns)

abbrev pub device_for : List Command → PlaneKind → Option DeviceName
device_for before kind = device_where (device_after before) kind (width_after before)

abbrev pub data_cause : List Command → PlaneKind → Option BinCause
data_cause before kind =
    data_cause_where (device_for before kind) kind (first_row_after before) (height_after before) (width_after before)

-- ---- other commands

-- whether `rows` is the height of a configuration plane of the device, if there is one
abbrev pub ends_plane : Option DeviceName → ℕ → Bool
ends_plane None rows = false
ends_plane (Some device) rows = rows == cram_height device

-- whether data give the last row of a configuration plane, by their first row, their height and their width; the device is the one whose
-- planes have that width
abbrev pub gives_last_where : PlaneKind → ℕ → ℕ → ℕ → Bool
gives_last_where Cram first rows columns = ends_plane (device_with Cram columns) (first + rows)
gives_last_where Bram first rows columns = false

-- whether a command gives the last row of a configuration plane, if the commands before it are these
abbrev pub gives_last_row : List Command → Option Command → Bool
gives_last_row before (Some (Data kind payload body)) = gives_last_where kind (first_row_after before) (height_after before) (width_after before)
gives_last_row before command = false

-- whether some command gives the last row of a configuration plane, in any bank
abbrev pub reached_in : List Command → Bool
reached_in commands = any_below (length commands) (λ k. gives_last_row (take k commands) (slice_get commands k))

-- a wake-up before the last row of a configuration plane was given, or before any data
abbrev pub wake_up_cause : List Command → Option BinCause
wake_up_cause before = cause_if (not (reached_in before)) NoDevice

-- the check value after a command
abbrev pub check_found : List Command → Command → ℕ
check_found before command = check_value (bits_of (covered before ++ spelling command))

abbrev pub check_cause : ℕ → Option BinCause
check_cause found = cause_if (not (found == 0)) (Check found)

abbrev pub is_mode : ℕ → Bool
is_mode n = (n == 0) || (n == 1) || (n == 32) || (n == 33)

abbrev pub control_cause : Bool → ℕ → Option BinCause
control_cause reached n =
    if n == reset_number then None else if n == wake_up_number then cause_if (not reached) NoDevice else Some UnknownCommand

-- What is wrong with a command that isn't data, by its opcode and the value of its payload, by whether the last row of a configuration
-- plane was given, and by the check value after the command.
abbrev pub short_cause_where : Bool → ℕ → ℕ → ℕ → Option BinCause
short_cause_where reached found opcode n =
    if opcode == control_opcode then control_cause reached n
    else if opcode == bank_opcode then cause_if (nat_lt 3 n) BadBank
    else if opcode == check_opcode then check_cause found
    else if opcode == boot_address_opcode then None
    else if opcode == range_opcode then cause_if (nat_lt 2 n) BadRange
    else if opcode == width_opcode then None
    else if opcode == height_opcode then None
    else if opcode == offset_opcode then None
    else if opcode == mode_opcode then cause_if (not (is_mode n)) BadMode
    else Some UnknownCommand

abbrev pub short_cause : List Command → ℕ → List ℕ → Option BinCause
short_cause before opcode payload = short_cause_where (reached_in before) (check_found before (Short opcode payload)) opcode (number_of payload)

-- ---- commands

-- the kind of data that begin with an opcode and the value of a payload
abbrev pub data_kind : ℕ → ℕ → Option PlaneKind
data_kind opcode n =
    if opcode == control_opcode then (if n == kind_number Cram then Some Cram else if n == kind_number Bram then Some Bram else None)
    else None

-- a command that may follow these
abbrev pub IsAllowedAfter : List Command → Command → Type 0
IsAllowedAfter before (Short opcode payload) =
    (length payload < 5) × (data_kind opcode (number_of payload) ≡ None) × (short_cause before opcode payload ≡ None)
IsAllowedAfter before (Data kind payload body) =
    (length payload < 5) × (number_of payload ≡ kind_number kind) × (data_cause before kind ≡ None) × (length body ≡ size_after before)

-- ---- commands in bytes

-- an offset, and what is wrong there
pub record Fault : Type 0 where
  pub offset : ℕ
  pub cause : BinCause

abbrev pub fault_at : ℕ → BinCause → Fault
fault_at offset cause = record { offset = offset; cause = cause }

abbrev pub fault_where : ℕ → Option BinCause → Option Fault
fault_where offset None = None
fault_where offset (Some cause) = Some (fault_at offset cause)

-- what is wrong with the two bytes after data
abbrev pub end_fault : ℕ → List ℕ → Option Fault
end_fault offset [] = Some (fault_at offset Truncated)
end_fault offset (byte ∷ []) = if byte == 0 then Some (fault_at (offset + 1) Truncated) else Some (fault_at offset DataEnd)
end_fault offset (byte ∷ next ∷ rest) =
    if byte == 0 then (if next == 0 then None else Some (fault_at (offset + 1) DataEnd)) else Some (fault_at offset DataEnd)

-- what is wrong with `size` bytes of data and the two bytes after them
abbrev pub body_fault : ℕ → ℕ → List ℕ → Option Fault
body_fault size offset bytes =
    if nat_lt (length bytes) size then Some (fault_at (offset + length bytes) Truncated)
    else end_fault (offset + size) (drop size bytes)

-- what is wrong with data whose command begins at `offset` and whose bytes begin at `start`
abbrev pub data_fault : List Command → PlaneKind → ℕ → ℕ → List ℕ → Option Fault
data_fault before kind offset start bytes =
    or_else (fault_where offset (data_cause before kind)) (body_fault (size_after before) start bytes)

-- what is wrong with a command at an offset, by its payload and the bytes after it
abbrev pub payload_fault : List Command → ℕ → ℕ → List ℕ → Option PlaneKind → List ℕ → Option Fault
payload_fault before offset opcode payload None bytes = fault_where offset (short_cause before opcode payload)
payload_fault before offset opcode payload (Some kind) bytes = data_fault before kind offset (offset + 1 + length payload) bytes

-- What is wrong with the first byte and the payload of the first command of the bytes at an offset of the input. If the input
-- ends too early, the offset of the fault is its length.
abbrev pub head_fault : ℕ → List ℕ → Option Fault
head_fault offset [] = Some (fault_at offset Truncated)
head_fault offset (head ∷ rest) =
    if nat_lt 4 (head % 16) then Some (fault_at offset LongPayload)
    else if nat_lt (length rest) (head % 16) then Some (fault_at (offset + 1 + length rest) Truncated)
    else None

-- what is wrong with the first command of bytes that have its payload, if the commands before it are these
abbrev pub command_fault : List Command → ℕ → List ℕ → Option Fault
command_fault before offset [] = None
command_fault before offset (head ∷ rest) =
    let payload = take (head % 16) rest in
    payload_fault before offset (head / 16) payload (data_kind (head / 16) (number_of payload)) (drop (head % 16) rest)

-- what is wrong with the first command of the bytes at an offset of the input
abbrev pub first_fault : List Command → ℕ → List ℕ → Option Fault
first_fault before offset bytes = or_else (head_fault offset bytes) (command_fault before offset bytes)

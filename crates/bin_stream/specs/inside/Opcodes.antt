-- The numbers of opcodes and of control commands.
use Rattle.std.specs.Prelude.{◌≢◌, ℕ}
use Rattle.ice_image.specs.declared.planes.PlaneKind.TheVariants.{Cram, Bram}
use Rattle.bin_stream.specs.Commands.{kind_number, control_opcode, bank_opcode, check_opcode, boot_address_opcode, range_opcode, width_opcode, height_opcode, offset_opcode, mode_opcode, reset_number, wake_up_number}
use Rattle.bin_stream.specs.declared.opcode.Opcode.{Opcode}
use Rattle.bin_stream.specs.declared.opcode.Opcode.TheVariants.{Control, Bank, Check, BootAddress, Range, Width, Height, Offset, Mode}
use Rattle.bin_stream.specs.declared.opcode.Control.{Control as ControlTask}
use Rattle.bin_stream.specs.declared.opcode.Control.TheVariants.{CramData, BramData, Reset, WakeUp}

abbrev pub opcode_number : Opcode → ℕ
opcode_number Control = control_opcode
opcode_number Bank = bank_opcode
opcode_number Check = check_opcode
opcode_number BootAddress = boot_address_opcode
opcode_number Range = range_opcode
opcode_number Width = width_opcode
opcode_number Height = height_opcode
opcode_number Offset = offset_opcode
opcode_number Mode = mode_opcode

-- a number that no opcode has
pub record IsNoOpcode (n : ℕ) : Type 0 where
  pub control : n ≢ control_opcode
  pub bank : n ≢ bank_opcode
  pub check : n ≢ check_opcode
  pub boot_address : n ≢ boot_address_opcode
  pub range : n ≢ range_opcode
  pub width : n ≢ width_opcode
  pub height : n ≢ height_opcode
  pub offset : n ≢ offset_opcode
  pub mode : n ≢ mode_opcode

-- the value of a control command's payload
abbrev pub control_number : ControlTask → ℕ
control_number CramData = kind_number Cram
control_number BramData = kind_number Bram
control_number Reset = reset_number
control_number WakeUp = wake_up_number

-- a value that no control command's payload has
pub record IsNoControl (n : ℕ) : Type 0 where
  pub cram_data : n ≢ kind_number Cram
  pub bram_data : n ≢ kind_number Bram
  pub reset : n ≢ reset_number
  pub wake_up : n ≢ wake_up_number

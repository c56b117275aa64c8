-- The head of a command, which is its first byte and its payload, and what it says.
use Rattle.std.specs.Prelude.{◌≡◌, ℕ, ◌+◌, ◌%◌, Bool, List, length, take, drop, get_or, Some, None}
use Rattle.bin_stream.specs.Commands.{Command, Short, Data, number_of, control_opcode, bank_opcode, check_opcode, boot_address_opcode, range_opcode, width_opcode, height_opcode, offset_opcode, mode_opcode, reset_number, wake_up_number}
use Rattle.bin_stream.specs.Refusals.{data_kind, short_cause_where}
use Rattle.bin_stream.specs.declared.fault.BinCause.TheVariants.{UnknownCommand}
use Rattle.bin_stream.specs.declared.reading.command.Command.{Command as Parsed}
use Rattle.bin_stream.specs.declared.reading.command.Command.TheVariants.{Data as ParsedData, Short as ParsedShort}
use Rattle.bin_stream.specs.declared.reading.command.ShortCommand.{ShortCommand}
use Rattle.bin_stream.specs.declared.reading.command.ShortCommand.TheVariants.{Reset, WakeUp, Bank, Check, BootAddress, Range, Width, Height, Offset, Mode}

-- ---- in bytes

-- the first byte
abbrev pub first_byte : List ℕ → ℕ
first_byte bytes = get_or bytes 0 0

-- the payload
abbrev pub payload_in : List ℕ → List ℕ
payload_in bytes = take (first_byte bytes % 16) (drop 1 bytes)

-- how many bytes the head has
abbrev pub head_size : List ℕ → ℕ
head_size bytes = 1 + length (payload_in bytes)

-- ---- as a command

-- the opcode of a command that isn't data, and the value of its payload
abbrev pub numbers_in : ShortCommand → ℕ × ℕ
numbers_in Reset = (control_opcode, reset_number)
numbers_in WakeUp = (control_opcode, wake_up_number)
numbers_in (Bank number) = (bank_opcode, number)
numbers_in (Check number) = (check_opcode, number)
numbers_in (BootAddress number) = (boot_address_opcode, number)
numbers_in (Range number) = (range_opcode, number)
numbers_in (Width number) = (width_opcode, number)
numbers_in (Height number) = (height_opcode, number)
numbers_in (Offset number) = (offset_opcode, number)
numbers_in (Mode number) = (mode_opcode, number)

abbrev pub opcode_in : ShortCommand → ℕ
opcode_in command = (numbers_in command).0

abbrev pub number_in : ShortCommand → ℕ
number_in command = (numbers_in command).1

-- A command that was read is the one of an opcode and of the value of a payload.
abbrev pub IsOf : ℕ → ℕ → Parsed → Type 0
IsOf opcode n (ParsedData kind) = data_kind opcode n ≡ Some kind
IsOf opcode n (ParsedShort command) = (opcode ≡ opcode_in command) × (n ≡ number_in command)

-- no command has that opcode and a payload of that value
pub record IsUnknown (opcode n : ℕ) : Type 0 where
  pub no_data : data_kind opcode n ≡ None
  pub unknown : (reached : Bool) (found : ℕ) → short_cause_where reached found opcode n ≡ Some UnknownCommand

-- What was read of a command is that command; for data it is only the part before the rows.
abbrev pub Shows : Command → Parsed → Type 0
Shows (Data kind payload body) (ParsedData other) = other ≡ kind
Shows (Short opcode payload) (ParsedShort command) = (opcode ≡ opcode_in command) × (number_of payload ≡ number_in command)
Shows command parsed = ⊥

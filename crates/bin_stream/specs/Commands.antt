-- Commands, and the bytes that spell them (Project IceStorm, 'Bitstream File Format Documentation').
use Rattle.std.specs.Prelude.{ℕ, ◌+◌, ◌*◌, Bool, false, ◌&&◌, List, [], ◌∷◌, ◌++◌, length, fold, flat_map, ◌==◌, Option, Some}
use Rattle.ice_image.specs.declared.planes.PlaneKind.{PlaneKind}
use Rattle.ice_image.specs.declared.planes.PlaneKind.TheVariants.{Cram, Bram}

-- A command of an opcode with its payload, or data with a payload that says their kind and with the bytes of their rows.
pub data Command : Type 0 where
  Short : (opcode : ℕ) (payload : List ℕ) → Command
  Data : (kind : PlaneKind) (payload body : List ℕ) → Command

-- the value of a payload, the high byte first; an empty payload is 0
abbrev pub number_of : List ℕ → ℕ
number_of payload = fold (λ n byte. 256 * n + byte) 0 payload

-- the value of the payload that says of which kind data are
abbrev pub kind_number : PlaneKind → ℕ
kind_number Cram = 1
kind_number Bram = 3

-- The first byte has the opcode in its high half, which is 0 for data, and the number of bytes of payload in its low half.
-- Two bytes 00 follow data.
abbrev pub spelling : Command → List ℕ
spelling (Short opcode payload) = (16 * opcode + length payload) ∷ payload
spelling (Data kind payload body) = length payload ∷ payload ++ body ++ 0 ∷ 0 ∷ []

-- commands, one after the other
unfoldable pub spelled : List Command → List ℕ
spelled commands = flat_map spelling commands

-- ---- opcodes

-- data, a reset of the check value or the wake-up, by the value of the payload
abbrev pub control_opcode : ℕ
control_opcode = 0

abbrev pub bank_opcode : ℕ
bank_opcode = 1

abbrev pub check_opcode : ℕ
check_opcode = 2

abbrev pub boot_address_opcode : ℕ
boot_address_opcode = 4

abbrev pub range_opcode : ℕ
range_opcode = 5

-- the width of data, minus one
abbrev pub width_opcode : ℕ
width_opcode = 6

abbrev pub height_opcode : ℕ
height_opcode = 7

-- the row at which data begin
abbrev pub offset_opcode : ℕ
offset_opcode = 8

abbrev pub mode_opcode : ℕ
mode_opcode = 9

-- ---- values of payloads

-- the value of the payload that resets the check value
abbrev pub reset_number : ℕ
reset_number = 5

-- the value of the payload that ends the configuration
abbrev pub wake_up_number : ℕ
wake_up_number = 6

abbrev pub is_reset : Option Command → Bool
is_reset (Some (Short opcode payload)) = (opcode == control_opcode) && (number_of payload == reset_number)
is_reset command = false

abbrev pub is_wake_up : Command → Bool
is_wake_up (Short opcode payload) = (opcode == control_opcode) && (number_of payload == wake_up_number)
is_wake_up (Data kind payload body) = false

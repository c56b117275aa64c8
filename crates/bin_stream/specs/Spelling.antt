-- Which bytes spell which image, and what is wrong with all others.
use Rattle.std.specs.Prelude.{◌≡◌, ℕ, zero, suc, ◌+◌, ◌/◌, ◌%◌, Bool, false, true, List, [], ◌∷◌, ◌++◌, length, take, drop, slice_get, Option, Some, None, Result, Ok, Err, All, ◌↔◌}
use Rattle.plane_map.specs.declared.device.DeviceName.{DeviceName}
use Rattle.plane_map.specs.declared.device.DeviceName.TheVariants.{Hx1k}
use Rattle.layout_file.specs.declared.layouts.Layouts.{Layouts}
use Rattle.layout_file.specs.Layouts.{layout_for, HasLayout}
use Rattle.ice_image.specs.Configuration.{Configuration}
use Rattle.ice_image.specs.declared.planes.PlaneKind.{PlaneKind}
use Rattle.bin_stream.specs.Commands.{Command, Short, Data, number_of, spelling, spelled, is_wake_up}
use Rattle.bin_stream.specs.State.{size_after, device_after}
use Rattle.bin_stream.specs.Refusals.{Fault, fault_at, first_fault, data_kind, IsAllowedAfter}
use Rattle.bin_stream.specs.Front.{preamble, preamble_offset}
use Rattle.bin_stream.specs.Meaning.{meaning}
use Rattle.bin_stream.specs.declared.fault.BinCause.TheVariants.{NoPreamble}
use Rattle.bin_stream.specs.declared.fault.BinFault.{BinFault}
use Rattle.bin_stream.specs.declared.fault.BinFault.TheVariants.{At, Memory}

-- ---- as relations

-- each command may follow those before it
abbrev pub IsAllowed : List Command → Type 0
IsAllowed commands = (k : ℕ) (command : Command) → slice_get commands k ≡ Some command → IsAllowedAfter (take k commands) command

-- the first preamble is right after this front
abbrev pub IsFront : List ℕ → List ℕ → Type 0
IsFront front bytes = preamble_offset bytes ≡ Some (length front)

-- commands before the wake-up
abbrev pub NoWakeUp : List Command → Type 0
NoWakeUp commands = All (λ command. is_wake_up command ≡ false) commands

-- The bytes spell the image under the layouts: a front, the preamble, allowed commands of which the last and no other is a wake-up,
-- and any bytes after it.
pub record Spells (layouts : Layouts) (bytes : List ℕ) (image : Configuration) : Type 0 where
  pub front : List ℕ
  pub commands : List Command
  pub wake_up : Command
  pub tail : List ℕ
  pub spelled_is : bytes ≡ front ++ preamble ++ spelled (commands ++ wake_up ∷ []) ++ tail
  pub front_is : IsFront front bytes
  pub allowed : IsAllowed (commands ++ wake_up ∷ [])
  pub before : NoWakeUp commands
  pub last : is_wake_up wake_up ≡ true
  pub device : device_after commands ≡ Some image.layout.device
  pub layout : HasLayout layouts image.layout
  pub means : image ≡ meaning image.layout front (commands ++ wake_up ∷ [])

-- The bytes have a fault: after a front, the preamble and allowed commands without a wake-up, something is
-- wrong with the first command of the rest. So no longer list of allowed commands is spelled there.
pub record FailsAt (bytes : List ℕ) (fault : Fault) : Type 0 where
  pub front : List ℕ
  pub commands : List Command
  pub rest : List ℕ
  pub spelled_is : bytes ≡ front ++ preamble ++ spelled commands ++ rest
  pub front_is : IsFront front bytes
  pub allowed : IsAllowed commands
  pub before : NoWakeUp commands
  pub wrong : first_fault commands (length front + 4 + length (spelled commands)) rest ≡ Some fault

-- bytes without a preamble fail at their end, others at the first wrong command
abbrev pub IsRefused : List ℕ → Fault → Type 0
IsRefused bytes fault = IsRefusedAt (preamble_offset bytes)
  where
    IsRefusedAt : Option ℕ → Type 0
    IsRefusedAt None = fault ≡ fault_at (length bytes) NoPreamble
    IsRefusedAt (Some offset) = FailsAt bytes fault

-- ---- as one small program

-- the first command of bytes that have no fault there
abbrev pub command_of : List Command → ℕ → List ℕ → Option PlaneKind → List ℕ → Command
command_of before opcode payload None bytes = Short opcode payload
command_of before opcode payload (Some kind) bytes = Data kind payload (take (size_after before) bytes)

abbrev pub first_command : List Command → List ℕ → Command
first_command before [] = Short 0 []
first_command before (head ∷ rest) =
    let payload = take (head % 16) rest in
    command_of before (head / 16) payload (data_kind (head / 16) (number_of payload)) (drop (head % 16) rest)

-- a fault, or all commands if the wake-up is reached, or else the commands that follow
abbrev pub read_on : Option Fault → Bool → Result (List Command) Fault → Result (List Command) Fault → Result (List Command) Fault
read_on (Some fault) ends all more = Err fault
read_on None true all more = all
read_on None false all more = more

-- the commands up to the wake-up, or the first fault; each command takes at least one byte, so a count above the number of bytes is
-- never used up
unfoldable pub commands_from : ℕ → List Command → ℕ → List ℕ → Result (List Command) Fault
commands_from zero before offset bytes = Ok before
commands_from (suc most) before offset bytes =
    let command = first_command before bytes in
    let commands = before ++ command ∷ [] in
    let size = length (spelling command) in
    read_on (first_fault before offset bytes) (is_wake_up command) (Ok commands) (commands_from most commands (offset + size) (drop size bytes))

-- the device; there is one if a wake-up is allowed
abbrev pub device_or : Option DeviceName → DeviceName
device_or None = Hx1k
device_or (Some device) = device

abbrev pub image_of : Layouts → List ℕ → Result (List Command) Fault → Result Configuration Fault
image_of layouts front (Ok commands) = Ok (meaning (layout_for layouts (device_or (device_after commands))) front commands)
image_of layouts front (Err fault) = Err fault

abbrev pub read_after : Layouts → List ℕ → Option ℕ → Result Configuration Fault
read_after layouts bytes None = Err (fault_at (length bytes) NoPreamble)
read_after layouts bytes (Some offset) =
    image_of layouts (take offset bytes) (commands_from (length bytes + 1) [] (offset + 4) (drop (offset + 4) bytes))

-- the image that bytes spell under the layouts, or their fault
unfoldable pub bin_read_of : Layouts → List ℕ → Result Configuration Fault
bin_read_of layouts bytes = read_after layouts bytes (preamble_offset bytes)

-- Each input has exactly one image or exactly one fault, and not both: the one that the program gives.
pub record IsDecided (layouts : Layouts) (bytes : List ℕ) : Type 0 where
  pub spelled : (image : Configuration) → Spells layouts bytes image ↔ (bin_read_of layouts bytes ≡ Ok image)
  pub refused : (fault : Fault) → IsRefused bytes fault ↔ (bin_read_of layouts bytes ≡ Err fault)

-- a fault other than out of memory is this one
abbrev pub Tells : Result Configuration Fault → BinFault → Type 0
Tells read (At offset cause) = read ≡ Err (fault_at offset cause)
Tells read (Memory e) = Unit {0}

-- What a decoder keeps of the bytes so far.
use Rattle.std.specs.Prelude.{◌≡◌, ◌≢◌, ℕ, ◌+◌, ◌-◌, ◌≤◌, Bool, false, List, ◌∷◌, [], ◌++◌, length, take, drop, bytes_eq, Option, Some, None, Result, Ok, Err}
use Rattle.layout_file.specs.declared.layouts.Layouts.{Layouts}
use Rattle.ice_image.specs.Either.{configuration_of}
use Rattle.ice_image.specs.declared.any.AnyImage.{AnyImage}
use Rattle.bin_stream.specs.Commands.{Command, spelled}
use Rattle.bin_stream.specs.Refusals.{fault_at, first_fault}
use Rattle.bin_stream.specs.Front.{preamble, preamble_offset, comment_of}
use Rattle.bin_stream.specs.Spelling.{IsAllowed, IsFront, NoWakeUp, bin_read_of}
use Rattle.bin_stream.specs.Settled.{is_unfinished, Settles}
use Rattle.bin_stream.specs.inside.Registers.{Held}
use Rattle.bin_stream.specs.inside.Step.{Stands, IsFinished}
use Rattle.bin_stream.specs.declared.fault.BinCause.TheVariants.{Truncated}
use Rattle.bin_stream.specs.declared.fault.BinFault.{BinFault}
use Rattle.bin_stream.specs.declared.fault.BinFault.TheVariants.{At, Memory}
use Rattle.bin_stream.specs.declared.reading.head.Cursor.{Cursor}
use Rattle.bin_stream.specs.declared.reading.machine.Machine.{Machine}
use Rattle.bin_stream.specs.declared.reading.stage.Stage.{Stage}
use Rattle.bin_stream.specs.declared.reading.stage.Stage.TheVariants.{Front, Plain, Commands, Image, Refused}
use Rattle.bin_stream.specs.declared.reading.taking.Taken.{Taken}

-- whether a fault is that the input ends too early
abbrev pub is_cut : BinFault → Bool
is_cut (At offset cause) = is_unfinished cause
is_cut (Memory e) = false

-- ---- before the preamble

abbrev pub begins_comment : List ℕ → Bool
begins_comment bytes = bytes_eq (take 2 bytes) (0xFF ∷ 0 ∷ [])

-- There are enough bytes to know that they begin no comment.
abbrev pub IsPlain : List ℕ → Type 0
IsPlain bytes = (3 ≤ length bytes) × (begins_comment bytes ≡ false)

-- Bytes without a preamble, all of which are kept.
pub record KeepsFront (bytes : List ℕ) (kept : List ℕ) : Type 0 where
  pub none : preamble_offset bytes ≡ None
  pub kept_is : kept ≡ bytes

-- Bytes without a preamble and without a comment, of which the last three are kept.
pub record KeepsPlain (bytes : List ℕ) (last : List ℕ) : Type 0 where
  pub none : preamble_offset bytes ≡ None
  pub plain : IsPlain bytes
  pub last_is : last ≡ drop (length bytes - 3) bytes

-- ---- commands

-- The bytes are a front, the preamble, allowed commands without a wake-up up to an offset, and a rest. The comment is the comment of
-- the front, and the registers and the image are the result of the commands.
pub record IsReading (layouts : Layouts) (bytes : List ℕ) (comment : Option (List (List ℕ))) (held : Held) (image : Option AnyImage) (offset : ℕ) (rest : List ℕ) : Type 0 where
  pub front : List ℕ
  pub commands : List Command
  pub spelled_is : bytes ≡ front ++ preamble ++ (spelled commands ++ rest)
  pub front_is : IsFront front bytes
  pub comment_is : comment ≡ comment_of front
  pub allowed : IsAllowed commands
  pub before : NoWakeUp commands
  pub stands : Stands layouts commands held image
  pub offset_is : offset ≡ length front + 4 + length (spelled commands)

-- the bytes are such a front, preamble, commands and rest, and the rest is less than a command
pub record IsCut (layouts : Layouts) (bytes : List ℕ) (comment : Option (List (List ℕ))) (held : Held) (image : Option AnyImage) (offset : ℕ) (rest : List ℕ) : Type 0 where
  pub reading : IsReading layouts bytes comment held image offset rest
  pub cut : first_fault reading.commands offset rest ≡ Some (fault_at (offset + length rest) Truncated)

-- the wake-up was read: with the settings and the comment the image is what the bytes spell
pub record IsWoken (layouts : Layouts) (bytes : List ℕ) (comment : Option (List (List ℕ))) (held : Held) (image : Option AnyImage) : Type 0 where
  pub is_there : image ≢ None
  pub read : (finished : AnyImage) → IsFinished held image finished → bin_read_of layouts bytes ≡ Ok (record (configuration_of finished) { comment = comment })

-- ---- commands that are taken

-- the machine is the result of the commands up to a cursor
abbrev pub ReadsAt : Machine → Cursor → List ℕ → Option (List (List ℕ)) → Type 0
ReadsAt machine at bytes comment = IsReading machine.layouts bytes comment machine.registers machine.image at.offset at.bytes.now

-- after what was taken at a cursor, the rest is less than a command
abbrev pub LeavesCut : Machine → Cursor → Taken → Type 0
LeavesCut machine at taken = (bytes : List ℕ) (comment : Option (List (List ℕ))) → ReadsAt machine at bytes comment → IsCut machine.layouts bytes comment taken.machine.registers taken.machine.image (at.offset + taken.end) (drop taken.end at.bytes.now)

-- what was taken at a cursor ends with the wake-up
abbrev pub LeavesWoken : Machine → Cursor → Taken → Type 0
LeavesWoken machine at taken = (bytes : List ℕ) (comment : Option (List (List ℕ))) → ReadsAt machine at bytes comment → IsWoken machine.layouts bytes comment taken.machine.registers taken.machine.image

-- a fault at a cursor or after it settles the bytes
abbrev pub FailsAfter : Machine → Cursor → BinFault → Type 0
FailsAfter machine at fault = (bytes : List ℕ) (comment : Option (List (List ℕ))) → ReadsAt machine at bytes comment → Settles (bin_read_of machine.layouts bytes) fault

-- ---- stages

-- how many bytes a stage keeps
abbrev pub length_kept : Stage → ℕ
length_kept (Front kept) = length kept.items
length_kept (Plain last) = 0
length_kept (Commands comment registers image pending) = length pending.items
length_kept (Image image) = 0
length_kept (Refused fault) = 0

-- a stage is the stage of the bytes
abbrev pub IsStage : Layouts → List ℕ → Stage → Type 0
IsStage layouts bytes (Front kept) = KeepsFront bytes kept.items
IsStage layouts bytes (Plain last) = KeepsPlain bytes last
IsStage layouts bytes (Commands comment registers image pending) = IsCut layouts bytes comment registers image (length bytes - length pending.items) pending.items
IsStage layouts bytes (Image image) = bin_read_of layouts bytes ≡ Ok (configuration_of image)
IsStage layouts bytes (Refused fault) = Settles (bin_read_of layouts bytes) fault

-- the stage that follows, which is a refusal if there is a fault
abbrev pub stage_of : Result Stage BinFault → Stage
stage_of (Ok stage) = stage
stage_of (Err fault) = Refused fault

-- the fault of a refusal
abbrev pub fault_in : Stage → Option BinFault
fault_in (Front kept) = None
fault_in (Plain last) = None
fault_in (Commands comment registers image pending) = None
fault_in (Image image) = None
fault_in (Refused fault) = Some fault

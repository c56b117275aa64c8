-- What a step of a decoder does.
use Rattle.std.specs.Prelude.{◌≡◌, ℕ, ◌+◌, ◌<◌, Bool, true, false, List, [], ◌∷◌, ◌++◌, length, drop, Option, Some, None}
use Rattle.index_search.specs.Places.{or_else}
use Rattle.bit_plane.specs.BitList.{bits_of}
use Rattle.bit_plane.specs.Rows.{rows_of}
use Rattle.plane_map.specs.declared.device.DeviceName.{DeviceName}
use Rattle.plane_map.specs.declared.tile.Place.{Place}
use Rattle.plane_map.specs.Layout.{Layout}
use Rattle.layout_file.specs.declared.layouts.Layouts.{Layouts}
use Rattle.layout_file.specs.Layouts.{layout_for, HasLayout}
use Rattle.ice_image.specs.Configuration.{Configuration, blank_image}
use Rattle.ice_image.specs.Planes.{with_rows}
use Rattle.ice_image.specs.Either.{configuration_of, device_of}
use Rattle.ice_image.specs.declared.any.AnyImage.{AnyImage}
use Rattle.ice_image.specs.declared.planes.PlaneKind.{PlaneKind}
use Rattle.ice_image.specs.declared.planes.PlaneKind.TheVariants.{Cram, Bram}
use Rattle.bin_stream.specs.Commands.{Command, spelling, is_wake_up}
use Rattle.bin_stream.specs.State.{device_after}
use Rattle.bin_stream.specs.Refusals.{Fault, fault_at, fault_where, body_fault, first_fault, device_where, reached_in}
use Rattle.bin_stream.specs.Meaning.{plane_bit, planes_of}
use Rattle.bin_stream.specs.Spelling.{first_command, commands_from}
use Rattle.bin_stream.specs.inside.Heads.{Shows}
use Rattle.bin_stream.specs.inside.Registers.{Held, Fits, held_after, settings_by, size_by, data_cause_by}
use Rattle.bin_stream.specs.declared.fault.BinCause.{BinCause}
use Rattle.bin_stream.specs.declared.fault.BinCause.TheVariants.{Truncated}
use Rattle.bin_stream.specs.declared.fault.BinFault.{BinFault}
use Rattle.bin_stream.specs.declared.fault.BinFault.TheVariants.{At, Memory}
use Rattle.bin_stream.specs.declared.reading.command.Command.{Command as Parsed}
use Rattle.bin_stream.specs.declared.reading.head.Cursor.{Cursor}
use Rattle.bin_stream.specs.declared.reading.machine.Entered.{Entered}
use Rattle.bin_stream.specs.declared.reading.machine.Machine.{Machine}

-- ---- faults

abbrev pub fault_of : ℕ → BinCause → BinFault
fault_of offset cause = At offset cause

-- a fault other than out of memory is the one that was found
abbrev pub Refuses : Option Fault → BinFault → Type 0
Refuses found (At offset cause) = found ≡ Some (fault_at offset cause)
Refuses found (Memory e) = Unit {0}

-- what is wrong with data whose command begins at `offset` and whose bytes begin at `start`
abbrev pub data_refusal : Held → Option DeviceName → PlaneKind → ℕ → ℕ → List ℕ → Option Fault
data_refusal held fixed kind offset start bytes =
    or_else (fault_where offset (data_cause_by held fixed kind)) (body_fault (size_by held) start bytes)

-- the device of the image, if there is one
abbrev pub device_if : Option AnyImage → Option DeviceName
device_if None = None
device_if (Some image) = Some (device_of image)

-- what is wrong with data at a cursor, whose head has `start` bytes
abbrev pub data_fault_at : Machine → PlaneKind → Cursor → ℕ → Option Fault
data_fault_at machine kind at start =
    data_refusal machine.registers (device_if machine.image) kind at.offset (at.offset + start) (drop start at.bytes.now)

-- ---- the image

-- the image so far, or a blank one of a layout
abbrev pub image_or_blank : Layout → Option AnyImage → Configuration
image_or_blank layout None = blank_image layout
image_or_blank layout (Some image) = configuration_of image

-- data were written into the image so far, or into a blank one under the device's layout
pub record IsDrawnOn (layouts : Layouts) (kind : PlaneKind) (held : Held) (body : List ℕ) (before after : Option AnyImage) : Type 0 where
  pub device : DeviceName
  pub image : AnyImage
  pub device_is : device_where (device_if before) kind held.width ≡ Some device
  pub fits : Fits device kind held
  pub bank_in : held.bank < 4
  pub long : length body ≡ size_by held
  pub image_is : after ≡ Some image
  pub same_device : device_of image ≡ device
  pub rows_are : configuration_of image ≡ with_rows kind held.bank held.first_row (rows_of held.width held.height (bits_of body)) (image_or_blank (layout_for layouts device) before)

-- an image of a device, under its layout, with what commands draw
pub record IsDrawn (layouts : Layouts) (commands : List Command) (image : AnyImage) : Type 0 where
  pub device_is : device_after commands ≡ Some (device_of image)
  pub layout_is : HasLayout layouts (configuration_of image).layout
  pub cram_is : (configuration_of image).cram ≡ planes_of (device_of image) Cram commands
  pub bram_is : (configuration_of image).bram ≡ planes_of (device_of image) Bram commands

-- no data yet
pub record IsBlank (commands : List Command) : Type 0 where
  pub no_device : device_after commands ≡ None
  pub not_reached : reached_in commands ≡ false
  pub no_bit : (kind : PlaneKind) (at : Place) → plane_bit kind commands at ≡ false

abbrev pub Holds : Layouts → List Command → Option AnyImage → Type 0
Holds layouts commands None = IsBlank commands
Holds layouts commands (Some image) = IsDrawn layouts commands image

-- ---- commands

-- the registers and the image are the result of the commands
pub record Stands (layouts : Layouts) (commands : List Command) (held : Held) (image : Option AnyImage) : Type 0 where
  pub held_is : held ≡ held_after commands
  pub drawn : Holds layouts commands image

-- the first command of the bytes at an offset was read
pub record IsEntered (layouts : Layouts) (commands : List Command) (offset : ℕ) (bytes : List ℕ) (size : ℕ) (is_last : Bool) (held : Held) (image : Option AnyImage) : Type 0 where
  pub fine : first_fault commands offset bytes ≡ None
  pub size_is : size ≡ length (spelling (first_command commands bytes))
  pub last_is : is_last ≡ is_wake_up (first_command commands bytes)
  pub reached : is_last ≡ true → held.reached ≡ true
  pub stands : Stands layouts (commands ++ first_command commands bytes ∷ []) held image

-- what was read is the first command at a cursor, whatever came before it
abbrev pub ShowsFirst : Cursor → Parsed → Type 0
ShowsFirst at parsed = (commands : List Command) → Shows (first_command commands at.bytes.now) parsed

-- the fault is the fault of the first command at a cursor, whatever came before it
abbrev pub FailsAnyhow : Cursor → BinFault → Type 0
FailsAnyhow at fault = (commands : List Command) → Refuses (first_fault commands at.offset at.bytes.now) fault

-- the fault is the fault of the first command at a cursor after commands whose result is the machine
abbrev pub FailsFirst : Machine → Cursor → BinFault → Type 0
FailsFirst machine at fault = (commands : List Command) → Stands machine.layouts commands machine.registers machine.image → Refuses (first_fault commands at.offset at.bytes.now) fault

-- the bytes at a cursor end within the first command
abbrev pub EndsFirst : Machine → Cursor → Type 0
EndsFirst machine at = (commands : List Command) → Stands machine.layouts commands machine.registers machine.image → first_fault commands at.offset at.bytes.now ≡ Some (fault_at (at.offset + length at.bytes.now) Truncated)

-- the first command at a cursor was read, and the result is another machine
abbrev pub EntersFirst : Machine → Cursor → Entered → Machine → Type 0
EntersFirst machine at entered after = (commands : List Command) → Stands machine.layouts commands machine.registers machine.image → IsEntered machine.layouts commands at.offset at.bytes.now entered.size entered.is_last after.registers after.image

-- Commands were read up to an offset, and the registers and the image are their result.
pub record HasRead (layouts : Layouts) (bytes : List ℕ) (start offset : ℕ) (held : Held) (image : Option AnyImage) : Type 0 where
  pub commands : List Command
  pub most : ℕ
  pub enough : length bytes < offset + most
  pub goes_on : commands_from (length bytes + 1) [] start (drop start bytes) ≡ commands_from most commands offset (drop offset bytes)
  pub stands : Stands layouts commands held image

-- the image that was drawn, with the settings that are kept
pub record IsFinished (held : Held) (drawn : Option AnyImage) (image : AnyImage) : Type 0 where
  pub before : AnyImage
  pub drawn_is : drawn ≡ Some before
  pub same_device : device_of image ≡ device_of before
  pub settings_are : configuration_of image ≡ record (configuration_of before) { settings = settings_by held }

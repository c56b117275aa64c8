-- An image, from a bitstream or from a text.
use Rattle.std.specs.Prelude.{◌≡◌, ℕ, List, [], is_some, if◌then◌else◌, Option, None, Some, Result, Ok, Err}
use Rattle.layout_file.specs.declared.layouts.Layouts.{Layouts}
use Rattle.ice_image.specs.Configuration.{Configuration}
use Rattle.asc_text.specs.Faults.{Fault as TextFault, asc_fault_of}
use Rattle.asc_text.specs.Meaning.{asc_image_of, asc_symbols_of}
use Rattle.asc_text.specs.declared.file.Symbol.{Symbol}
use Rattle.bin_stream.specs.Front.{preamble_offset}
use Rattle.bin_stream.specs.Refusals.{Fault as StreamFault}
use Rattle.bin_stream.specs.Spelling.{bin_read_of}
use Rattle.tool_inputs.specs.Faults.{asc_fault_text, bin_fault_text}
use Rattle.tool_run.specs.Lines.{in_file, refusal_text}
use Rattle.tool_run.specs.declared.tool.Stop.{Stop}
use Rattle.tool_run.specs.declared.tool.Stop.TheVariants.{Refused, Quiet, UsageError, Memory}

-- the most bytes that an image may have
abbrev pub image_limit : ℕ
image_limit = 16777216

-- the image that a bitstream spells, or the message for its fault
abbrev pub of_stream : Result Configuration StreamFault → Result Configuration (List ℕ)
of_stream (Ok image) = Ok image
of_stream (Err fault) = Err (bin_fault_text fault.offset fault.cause)

-- the image that a text configures, or the message for its fault; each text without a fault configures an image
abbrev pub of_text : Option TextFault → Option Configuration → Result Configuration (List ℕ)
of_text (Some fault) image = Err (asc_fault_text fault.line fault.tile fault.cause)
of_text None (Some image) = Ok image
of_text None None = Err []

-- The image of these bytes, under layouts. They are a bitstream if the preamble is somewhere in them, and else a text.
unfoldable pub image_read : Layouts → List ℕ → Result Configuration (List ℕ)
image_read layouts bytes =
    if is_some (preamble_offset bytes) then of_stream (bin_read_of layouts bytes)
    else of_text (asc_fault_of layouts bytes) (asc_image_of layouts bytes)

-- The names of nets that these bytes give. A text may give some, and a bitstream gives none.
unfoldable pub symbols_read : List ℕ → List Symbol
symbols_read bytes = if is_some (preamble_offset bytes) then [] else asc_symbols_of bytes

-- the image of a file, by the name of the file if a tool has several: the name stands before the message for a fault
abbrev pub image_in : Option (List ℕ) → Result Configuration (List ℕ) → Result Configuration (List ℕ)
image_in file (Ok image) = Ok image
image_in file (Err text) = Err (in_file file text)

-- if no image is read, a refusal has the message for its fault, and out of memory is free
abbrev pub StopsImage : Result Configuration (List ℕ) → Stop → Type 0
StopsImage read (Refused refusal) = read ≡ Err (refusal_text refusal)
StopsImage read Quiet = ⊥
StopsImage read (UsageError refusal) = ⊥
StopsImage read Memory = Unit {0}

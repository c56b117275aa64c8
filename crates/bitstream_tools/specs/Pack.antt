-- `icepack`: packs a text into a bitstream. `-u` and `-s` are options of Project IceStorm's `icepack` (its usage text), `--layout` is this
-- project's own.
use Rattle.std.specs.Prelude.{ℕ, Bool, true, false, List, [], ◌∷◌, codes, get_or, Option, None, Some}
use Rattle.clap.specs.Words.{App, Row, Text, first_of}
use Rattle.layout_file.specs.declared.layouts.Layouts.{Layouts}
use Rattle.ice_image.specs.Configuration.{Configuration}
use Rattle.asc_text.specs.Faults.{Fault, asc_fault_of}
use Rattle.asc_text.specs.Meaning.{asc_image_of}
use Rattle.bin_stream.specs.CanonicalBytes.{canonical_bytes}
use Rattle.ice_pack.specs.Packed.{awake_where}
use Rattle.tool_run.specs.Tasks.{Answer, Done, Refused, Task, layout_task, usage_error}
use Rattle.tool_inputs.specs.Outcomes.{Manual, outcome}
use Rattle.tool_inputs.specs.Commands.{command, flag, has_flag, long_option, positional}
use Rattle.tool_run.specs.Needs.{text_of}
use Rattle.bitstream_tools.specs.declared.pack.Request.{Request}
use Rattle.bitstream_tools.specs.declared.pack.Request.TheVariants.{Pack, Unpack}
use Rattle.bitstream_tools.specs.declared.pack.TheConstants.{ICEPACK_HELP}
use Rattle.tool_inputs.specs.Faults.{asc_fault_text}
use Rattle.tool_inputs.specs.Layouts.{answer_under, layouts_for}
use Rattle.bitstream_tools.specs.Unpack.{unpack_task}

-- the most bytes that a text may have
abbrev pub text_limit : ℕ
text_limit = 16777216

-- the bytes of the image that a text configures; each text without a fault configures one
abbrev pub bytes_of : Bool → Option Configuration → List ℕ
bytes_of no_sleep None = []
bytes_of no_sleep (Some image) = canonical_bytes (awake_where no_sleep image)

-- the bitstream of a text, by the image that it configures, or its fault
abbrev pub packed : Bool → Option Configuration → Option Fault → Answer
packed no_sleep image None = Done (bytes_of no_sleep image)
packed no_sleep image (Some fault) = Refused (asc_fault_text fault.line fault.tile fault.cause)

-- the bitstream of a text under layouts, or its fault
abbrev pub packed_under : Bool → List ℕ → Layouts → Answer
packed_under no_sleep text layouts = packed no_sleep (asc_image_of layouts text) (asc_fault_of layouts text)

-- the answer for the first text, under the layouts of a layout file if one is named
abbrev pub pack_answer : Bool → Option (List ℕ) → List (List ℕ) → Answer
pack_answer no_sleep layout texts = answer_under (layouts_for layout) (packed_under no_sleep (get_or texts 0 []))

abbrev pub icepack_name : List ℕ
icepack_name = codes "icepack"

abbrev pub icepack_usage : List ℕ
icepack_usage = codes "icepack [-u] [-s] [--layout FILE] [INPUT [OUTPUT]]"

abbrev pub icepack_command : App
icepack_command = command icepack_name (flag (codes "unpack") 117 ∷ flag (codes "no_sleep") 115 ∷ long_option (codes "layout") ∷ positional (codes "input") ∷ positional (codes "output") ∷ [])

-- the task of packing a text into a bitstream
abbrev pub pack_task : Bool → Option Text → Option Text → Option Text → Task
pack_task no_sleep layout input output =
    layout_task icepack_name layout (record { name = input; limit = text_limit } ∷ []) output (pack_answer no_sleep)

-- with `-u` it unpacks, and then `-s` may not be there
abbrev pub icepack_task_of : Bool → Bool → Option Text → Option Text → Option Text → Task
icepack_task_of false no_sleep layout input output = pack_task no_sleep layout input output
icepack_task_of true false layout input output = unpack_task icepack_name layout input output
icepack_task_of true true layout input output = usage_error icepack_name icepack_usage

abbrev pub icepack_task_by : List Row → Task
icepack_task_by rows = icepack_task_of (has_flag (codes "unpack") rows) (has_flag (codes "no_sleep") rows) (first_of (codes "layout") rows) (first_of (codes "input") rows) (first_of (codes "output") rows)

-- the tool
abbrev pub icepack : Manual
icepack = record { name = icepack_name; usage = icepack_usage; help = ICEPACK_HELP.now; app = icepack_command; task = icepack_task_by }

-- what the arguments of `icepack` ask for, which may be its help
abbrev pub icepack_outcome : List Text → Task
icepack_outcome args = outcome icepack args

-- the task of the request that was found in the arguments
abbrev pub icepack_task_for : Option Request → Task
icepack_task_for None = usage_error icepack_name icepack_usage
icepack_task_for (Some (Pack no_sleep names)) = pack_task no_sleep (text_of names.layout) (text_of names.input) (text_of names.output)
icepack_task_for (Some (Unpack names)) = unpack_task icepack_name (text_of names.layout) (text_of names.input) (text_of names.output)

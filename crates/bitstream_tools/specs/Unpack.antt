-- `iceunpack`, and `icepack -u`, which does the same: unpacks a bitstream to a text.
use Rattle.std.specs.Prelude.{ℕ, List, [], ◌∷◌, codes, get_or, Option, Result, Ok, Err}
use Rattle.clap.specs.Words.{App, Row, Text, first_of}
use Rattle.layout_file.specs.declared.layouts.Layouts.{Layouts}
use Rattle.ice_image.specs.Configuration.{Configuration}
use Rattle.asc_text.specs.Canonical.{asc_text_of}
use Rattle.bin_stream.specs.Refusals.{Fault}
use Rattle.bin_stream.specs.Spelling.{bin_read_of}
use Rattle.tool_run.specs.Tasks.{Answer, Done, Refused, Task, layout_task}
use Rattle.tool_inputs.specs.Outcomes.{Manual, outcome}
use Rattle.tool_inputs.specs.Commands.{command, long_option, positional}
use Rattle.bitstream_tools.specs.declared.unpack.TheConstants.{ICEUNPACK_HELP}
use Rattle.tool_inputs.specs.Faults.{bin_fault_text}
use Rattle.tool_inputs.specs.Layouts.{answer_under, layouts_for}

-- the most bytes that a bitstream may have
abbrev pub stream_limit : ℕ
stream_limit = 4194304

-- the canonical text of the image that a bitstream spells, or its fault
abbrev pub unpacked : Result Configuration Fault → Answer
unpacked (Ok image) = Done (asc_text_of image)
unpacked (Err fault) = Refused (bin_fault_text fault.offset fault.cause)

-- the canonical text of a bitstream under layouts, or its fault
abbrev pub unpacked_under : List ℕ → Layouts → Answer
unpacked_under bytes layouts = unpacked (bin_read_of layouts bytes)

-- the answer for the first bitstream, under the layouts of a layout file if one is named
abbrev pub unpack_answer : Option (List ℕ) → List (List ℕ) → Answer
unpack_answer layout texts = answer_under (layouts_for layout) (unpacked_under (get_or texts 0 []))

abbrev pub iceunpack_name : List ℕ
iceunpack_name = codes "iceunpack"

abbrev pub iceunpack_usage : List ℕ
iceunpack_usage = codes "iceunpack [--layout FILE] [INPUT [OUTPUT]]"

abbrev pub iceunpack_command : App
iceunpack_command = command iceunpack_name (long_option (codes "layout") ∷ positional (codes "input") ∷ positional (codes "output") ∷ [])

-- the task of unpacking a bitstream to a text
abbrev pub unpack_task : List ℕ → Option Text → Option Text → Option Text → Task
unpack_task tool_name layout input output = layout_task tool_name layout (record { name = input; limit = stream_limit } ∷ []) output unpack_answer

abbrev pub iceunpack_task_by : List Row → Task
iceunpack_task_by rows = unpack_task iceunpack_name (first_of (codes "layout") rows) (first_of (codes "input") rows) (first_of (codes "output") rows)

-- the tool
abbrev pub iceunpack : Manual
iceunpack = record { name = iceunpack_name; usage = iceunpack_usage; help = ICEUNPACK_HELP.now; app = iceunpack_command; task = iceunpack_task_by }

-- what the arguments of `iceunpack` ask for, which may be its help
abbrev pub iceunpack_outcome : List Text → Task
iceunpack_outcome args = outcome iceunpack args

-- `icesplit`: tells the images of a boot file, or takes one out.
use Rattle.std.specs.Prelude.{ℕ, Bool, true, false, List, [], ◌∷◌, ◌++◌, codes, decimal, get_or, length, slice_get, Option, None, Some, Result, Ok, Err}
use Rattle.clap.specs.Words.{App, Row, Text, first_of}
use Rattle.index_search.specs.Places.{gathered_below}
use Rattle.plane_map.specs.DeviceWords.{device_word}
use Rattle.bin_stream.specs.CanonicalBytes.{canonical_bytes}
use Rattle.boot_file.specs.declared.split_fault.SplitFault.{SplitFault}
use Rattle.boot_file.specs.Meaning.{Boot, PlacedImage}
use Rattle.boot_file.specs.Reading.{boot_read_of}
use Rattle.tool_run.specs.Needs.{Need, text_of}
use Rattle.tool_run.specs.Tasks.{Answer, Done, Refused, Task, plain_task, usage_error}
use Rattle.tool_inputs.specs.Outcomes.{Manual, outcome}
use Rattle.tool_inputs.specs.Commands.{command, positional, required, short_option}
use Rattle.bitstream_tools.specs.declared.split.SplitRequest.{SplitRequest}
use Rattle.bitstream_tools.specs.declared.split.TheConstants.{ICESPLIT_HELP}
use Rattle.bitstream_tools.specs.Multi.{number_given}
use Rattle.bitstream_tools.specs.SplitFaults.{split_fault_text}

-- the most bytes that a boot file may have
abbrev pub boot_limit : ℕ
boot_limit = 67108864

-- ---- the lines

-- the line that tells whether the pins choose the image at a cold boot
abbrev pub cold_line : Bool → List ℕ
cold_line true = codes "cold yes" ++ 10 ∷ []
cold_line false = codes "cold no" ++ 10 ∷ []

-- the line with the index of the image that is booted at power-on
abbrev pub power_line : ℕ → List ℕ
power_line index = codes "power " ++ decimal index ++ 10 ∷ []

abbrev pub image_line : ℕ → PlacedImage → List ℕ
image_line index placed =
    codes "image " ++ decimal index ++ codes " at " ++ decimal placed.address ++ codes " device " ++ device_word placed.image.layout.device ++ 10 ∷ []

-- the line of an image; nothing if there is none of this index
abbrev pub image_line_at : ℕ → Option PlacedImage → List ℕ
image_line_at index None = []
image_line_at index (Some placed) = image_line index placed

-- a line for each image, in their order
abbrev pub image_lines : List PlacedImage → List ℕ
image_lines images = gathered_below (length images) (λ index. image_line_at index (slice_get images index))

unfoldable pub listed : Boot → List ℕ
listed boot = cold_line boot.cold ++ power_line boot.power ++ image_lines boot.images

-- ---- the answer

-- the canonical bytes of an image; a refusal if there is none of this index
abbrev pub extracted : ℕ → Option PlacedImage → Answer
extracted index None = Refused (codes "NoImage " ++ decimal index)
extracted index (Some placed) = Done (canonical_bytes placed.image)

-- the image of a number if one is given, and else the lines
abbrev pub boot_answer : Option ℕ → Boot → Answer
boot_answer None boot = Done (listed boot)
boot_answer (Some index) boot = extracted index (slice_get boot.images index)

-- a fault of the boot file goes before an image that is missing
abbrev pub split_answer : Option ℕ → Result Boot SplitFault → Answer
split_answer wanted (Ok boot) = boot_answer wanted boot
split_answer wanted (Err fault) = Refused (split_fault_text fault)

abbrev pub icesplit_answer : Option ℕ → List (List ℕ) → Answer
icesplit_answer wanted texts = split_answer wanted (boot_read_of (get_or texts 0 []))

-- ---- the task

abbrev pub icesplit_name : List ℕ
icesplit_name = codes "icesplit"

abbrev pub icesplit_usage : List ℕ
icesplit_usage = codes "icesplit [-x N] BOOT [OUTPUT]"

abbrev pub icesplit_command : App
icesplit_command = command icesplit_name (short_option (codes "image") 120 ∷ required (codes "boot") ∷ positional (codes "output") ∷ [])

-- the boot file
abbrev pub split_needs : Text → List Need
split_needs boot = record { name = Some boot; limit = boot_limit } ∷ []

abbrev pub split_task : Option ℕ → Text → Option Text → Task
split_task wanted boot output = plain_task icesplit_name (split_needs boot) output (icesplit_answer wanted)

-- the number, if it is there, must be one, and there must be a boot file
abbrev pub icesplit_task_of : Option (Option ℕ) → Option Text → Option Text → Task
icesplit_task_of (Some wanted) (Some boot) output = split_task wanted boot output
icesplit_task_of (Some wanted) None output = usage_error icesplit_name icesplit_usage
icesplit_task_of None boot output = usage_error icesplit_name icesplit_usage

abbrev pub icesplit_task_by : List Row → Task
icesplit_task_by rows = icesplit_task_of (number_given (first_of (codes "image") rows)) (first_of (codes "boot") rows) (first_of (codes "output") rows)

-- the tool
abbrev pub icesplit : Manual
icesplit = record { name = icesplit_name; usage = icesplit_usage; help = ICESPLIT_HELP.now; app = icesplit_command; task = icesplit_task_by }

-- what the arguments of `icesplit` ask for, which may be its help
abbrev pub icesplit_outcome : List Text → Task
icesplit_outcome args = outcome icesplit args

-- the task of the request that was found in the arguments
abbrev pub icesplit_task_for : Option SplitRequest → Task
icesplit_task_for None = usage_error icesplit_name icesplit_usage
icesplit_task_for (Some request) = split_task request.wanted request.boot.now (text_of request.output)

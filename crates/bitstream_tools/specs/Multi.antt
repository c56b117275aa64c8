-- `icemulti`: joins several bitstreams to one boot file. The options are those of Project IceStorm's `icemulti` (its usage text).
use Rattle.std.specs.Prelude.{ℕ, Bool, true, false, not, ◌&&◌, ◌==◌, List, [], ◌∷◌, codes, length, map, nat_le, if◌then◌else◌, Option, None, Some, option_map}
use Rattle.clap.specs.Words.{App, Row, Text, first_of}
use Rattle.text_lines.specs.Words.{number_of}
use Rattle.boot_file.specs.declared.options.Options.{Options}
use Rattle.boot_file.specs.declared.multi_fault.MultiFault.{MultiFault}
use Rattle.boot_file.specs.BootFile.{boot_file}
use Rattle.boot_file.specs.Refusals.{check_fault, join_fault}
use Rattle.tool_run.specs.Needs.{Need, text_of}
use Rattle.tool_run.specs.Tasks.{Answer, Done, Refused, Task, at_once, plain_task, usage_error}
use Rattle.tool_inputs.specs.Outcomes.{Manual, outcome}
use Rattle.tool_inputs.specs.Commands.{command, flag, has_flag, long_flag, several, short_option, values_of}
use Rattle.bitstream_tools.specs.declared.multi.MultiRequest.{MultiRequest}
use Rattle.bitstream_tools.specs.declared.multi.TheConstants.{ICEMULTI_HELP}
use Rattle.bitstream_tools.specs.Faults.{multi_fault_text}
use Rattle.bitstream_tools.specs.Pack.{text_limit}
use Rattle.bitstream_tools.specs.Stored.{names_stored, options_for}

abbrev pub icemulti_name : List ℕ
icemulti_name = codes "icemulti"

abbrev pub icemulti_usage : List ℕ
icemulti_usage = codes "icemulti [--as-stock] [-c] [-p N] [-a N] [-A N] [-o OUTPUT] [IMAGE ...]"

abbrev pub icemulti_command : App
icemulti_command = command icemulti_name (
    long_flag (codes "as-stock") ∷ flag (codes "cold") 99 ∷ short_option (codes "power_on") 112 ∷ short_option (codes "align") 97 ∷ short_option (codes "align_all") 65
    ∷ short_option (codes "output") 111 ∷ several (codes "image") ∷ []
    )

-- ---- options

-- the number that one to three decimal digits write
unfoldable pub short_number : Text → Option ℕ
short_number text = if nat_le (length text) 3 then number_of text else None

-- the number of an option that may be missing (`Some None`); `None` if the value isn't one to three decimal digits
abbrev pub number_given : Option Text → Option (Option ℕ)
number_given None = Some None
number_given (Some text) = option_map Some (short_number text)

-- `-a` aligns all images except the first, `-A` the first too; both together aren't taken
abbrev pub aligned_by : Options → Option (Option ℕ) → Option (Option ℕ) → Option Options
aligned_by options (Some None) (Some None) = Some options
aligned_by options (Some (Some n)) (Some None) = Some (record options { align = Some n })
aligned_by options (Some None) (Some (Some n)) = Some (record options { align = Some n; align_first = true })
aligned_by options (Some (Some m)) (Some (Some n)) = None
aligned_by options None all = None
aligned_by options (Some align) None = None

-- the options without alignment: each image has its own header, in their order
abbrev pub unaligned : Bool → ℕ → Options
unaligned cold power_on = record { cold = cold; power_on = power_on; entries = 0 ∷ 1 ∷ 2 ∷ 3 ∷ []; align = None; align_first = false }

-- `-p` chooses the image at power-on; with `-c` the pins choose it, and `-p` may only be 0
abbrev pub powered_by : Bool → Option (Option ℕ) → Option Options
powered_by cold None = None
powered_by cold (Some None) = Some (unaligned cold 0)
powered_by cold (Some (Some n)) = if cold && not (n == 0) then None else Some (unaligned cold n)

abbrev pub options_by : Option Options → Option (Option ℕ) → Option (Option ℕ) → Option Options
options_by None align all = None
options_by (Some options) align all = aligned_by options align all

abbrev pub options_in : List Row → Option Options
options_in rows = options_by (powered_by (has_flag (codes "cold") rows) (number_given (first_of (codes "power_on") rows)))
    (number_given (first_of (codes "align") rows)) (number_given (first_of (codes "align_all") rows))

-- ---- the task

abbrev pub joined : List (List ℕ) → Options → Option MultiFault → Answer
joined images options None = Done (boot_file images options)
joined images options (Some fault) = Refused (multi_fault_text fault)

abbrev pub join_answer : Options → List (List ℕ) → Answer
join_answer options images = joined images options (join_fault images options)

abbrev pub image_need : Text → Need
image_need name = record { name = Some name; limit = text_limit }

-- if the number of images or the options alone are a fault, it is refused before anything is read
abbrev pub join_task : Bool → List Text → Options → Option Text → Option MultiFault → Task
join_task as_stock names options output None =
    plain_task icemulti_name (map image_need (names_stored as_stock names)) output (join_answer (options_for as_stock names options))
join_task as_stock names options output (Some fault) = at_once icemulti_name None (Refused (multi_fault_text fault))

abbrev pub icemulti_task_of : Bool → List Text → Option Text → Option Options → Task
icemulti_task_of as_stock names output None = usage_error icemulti_name icemulti_usage
icemulti_task_of as_stock names output (Some options) = join_task as_stock names options output (check_fault (length names) options)

abbrev pub icemulti_task_by : List Row → Task
icemulti_task_by rows =
    icemulti_task_of (has_flag (codes "as-stock") rows) (values_of (codes "image") rows) (first_of (codes "output") rows) (options_in rows)

-- the tool
abbrev pub icemulti : Manual
icemulti = record { name = icemulti_name; usage = icemulti_usage; help = ICEMULTI_HELP.now; app = icemulti_command; task = icemulti_task_by }

-- what the arguments of `icemulti` ask for, which may be its help
abbrev pub icemulti_outcome : List Text → Task
icemulti_outcome args = outcome icemulti args

-- the task of the request that was found in the arguments
abbrev pub icemulti_task_for : Option MultiRequest → Task
icemulti_task_for None = usage_error icemulti_name icemulti_usage
icemulti_task_for (Some request) = icemulti_task_of request.as_stock (map (λ name. name.now) request.names.now) (text_of request.output) (Some request.options)

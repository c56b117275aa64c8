-- `icebox_stat`: counts what an image uses of its device.
use Rattle.std.specs.Prelude.{ℕ, Bool, List, [], ◌∷◌, codes, Option, None, Some}
use Rattle.clap.specs.Words.{App, Row, Text, first_of}
use Rattle.ice_image.specs.Configuration.{Configuration}
use Rattle.chipdb_reader.specs.Database.{Database}
use Rattle.fabric_model.specs.Faults.{Fault}
use Rattle.image_stat.specs.Counts.{counts_of, stat_text}
use Rattle.image_stat.specs.Faults.{stat_fault}
use Rattle.tool_run.specs.Needs.{text_of}
use Rattle.tool_run.specs.Tasks.{Answer, Done, Refused, Task, layout_task, usage_error}
use Rattle.tool_inputs.specs.Outcomes.{Manual, outcome}
use Rattle.tool_inputs.specs.Commands.{command, has_flag, long_flag, long_option, positional, required}
use Rattle.tool_inputs.specs.DesignInput.{input_answer}
use Rattle.tool_inputs.specs.Images.{image_limit}
use Rattle.tool_inputs.specs.Databases.{database_limit}
use Rattle.design_answers.specs.Faults.{design_fault_text}
use Rattle.fabric_tools.specs.declared.counting.Inputs.{Inputs}
use Rattle.fabric_tools.specs.declared.counting.TheConstants.{ICEBOX_STAT_HELP}

-- ---- the answer

abbrev pub counted_with : Bool → Database → Configuration → Option Fault → Answer
counted_with all db image None = Done (stat_text (counts_of all db image))
counted_with all db image (Some fault) = Refused (design_fault_text fault)

-- the text of the counts, or the message if there are none, if pins of every kind are taken or if not
abbrev pub counted : Bool → Database → Configuration → Answer
counted all db image = counted_with all db image (stat_fault all db image)

-- the answer for the layout file, if one is named, and for the texts that were loaded: the database, and the image
abbrev pub stat_answer : Bool → Option (List ℕ) → List (List ℕ) → Answer
stat_answer all layout texts = input_answer layout (counted all) texts

-- ---- the arguments

abbrev pub stat_name : List ℕ
stat_name = codes "icebox_stat"

abbrev pub stat_usage : List ℕ
stat_usage = codes "icebox_stat [--all-pins] [--layout FILE] DB [IMAGE]"

abbrev pub stat_command : App
stat_command = command stat_name (long_flag (codes "all-pins") ∷ long_option (codes "layout") ∷ required (codes "db") ∷ positional (codes "image") ∷ [])

-- ---- the task

-- the layout file if one is named, the database, and the image from a file or from standard input
abbrev pub count_task : Bool → Option Text → Text → Option Text → Task
count_task all layout db image =
    layout_task stat_name layout (record { name = Some db; limit = database_limit } ∷ record { name = image; limit = image_limit } ∷ [])
    None (stat_answer all)

-- There must be a database. With `--all-pins` pins of every kind are taken.
abbrev pub stat_task_of : Bool → Option Text → Option Text → Option Text → Task
stat_task_of all layout (Some db) image = count_task all layout db image
stat_task_of all layout None image = usage_error stat_name stat_usage

abbrev pub stat_task_by : List Row → Task
stat_task_by rows = stat_task_of (has_flag (codes "all-pins") rows) (first_of (codes "layout") rows) (first_of (codes "db") rows) (first_of (codes "image") rows)

-- the tool
abbrev pub icebox_stat : Manual
icebox_stat = record { name = stat_name; usage = stat_usage; help = ICEBOX_STAT_HELP.now; app = stat_command; task = stat_task_by }

-- what the arguments of `icebox_stat` ask for, which may be its help
abbrev pub stat_outcome : List Text → Task
stat_outcome args = outcome icebox_stat args

-- the task of the inputs that were found in the arguments
abbrev pub stat_task_for : Option Inputs → Task
stat_task_for None = usage_error stat_name stat_usage
stat_task_for (Some inputs) = count_task inputs.all_pins (text_of inputs.layout) inputs.db.now (text_of inputs.image)

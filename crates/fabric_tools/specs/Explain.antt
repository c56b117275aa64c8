-- `icebox_explain`: tells what the set bits of an image mean. `-t` is an option of Project IceStorm's `icebox_explain` (its usage text),
-- `--layout` is this project's own.
use Rattle.std.specs.Prelude.{ℕ, ◌==◌, List, [], ◌∷◌, codes, option_map, Option, None, Some}
use Rattle.std.specs.List.{before_first, after_first}
use Rattle.clap.specs.Words.{App, Row, Text, first_of}
use Rattle.text_lines.specs.Words.{number_of}
use Rattle.asc_text.specs.declared.fault.TileXy.{TileXy}
use Rattle.ice_image.specs.Configuration.{Configuration}
use Rattle.chipdb_reader.specs.Database.{Database}
use Rattle.image_explain.specs.declared.fault.ExplainFault.{ExplainFault}
use Rattle.image_explain.specs.Explained.{explained, explain_fault_of}
use Rattle.tool_run.specs.Needs.{text_of}
use Rattle.tool_run.specs.Tasks.{Answer, Done, Refused, Task, layout_task, usage_error}
use Rattle.tool_inputs.specs.Outcomes.{Manual, outcome}
use Rattle.tool_inputs.specs.Commands.{command, long_option, positional, short_option}
use Rattle.tool_inputs.specs.DesignInput.{input_answer}
use Rattle.fabric_tools.specs.declared.request.Request.{Request}
use Rattle.fabric_tools.specs.declared.request.TheConstants.{ICEBOX_EXPLAIN_HELP}
use Rattle.fabric_tools.specs.Faults.{explain_fault_text}
use Rattle.tool_inputs.specs.Images.{image_limit}
use Rattle.tool_inputs.specs.Databases.{database_limit}

-- ---- the answer

abbrev pub told_with : List ℕ → Option ExplainFault → Answer
told_with text None = Done text
told_with text (Some fault) = Refused (explain_fault_text fault)

-- the text that explains an image, or the message for its fault
abbrev pub told : Database → Configuration → Option TileXy → Answer
told database image only = told_with (explained database image only) (explain_fault_of database image only)

-- the answer for the layout file, if one is named, and for the texts that were loaded: the database, and the image
abbrev pub explain_answer : Option TileXy → Option (List ℕ) → List (List ℕ) → Answer
explain_answer only layout texts = input_answer layout (λ db image. told db image only) texts

-- ---- the arguments

abbrev pub explain_name : List ℕ
explain_name = codes "icebox_explain"

abbrev pub explain_usage : List ℕ
explain_usage = codes "icebox_explain [-t \"X Y\"] [--layout FILE] DB [IMAGE]"

abbrev pub explain_command : App
explain_command = command explain_name (short_option (codes "tile") 116 ∷ long_option (codes "layout") ∷ positional (codes "db") ∷ positional (codes "image") ∷ [])

-- the tile of these coordinates, if both are there
abbrev pub tile_of : Option ℕ → Option ℕ → Option TileXy
tile_of (Some x) (Some y) = Some (record { x = x; y = y })
tile_of x y = None

-- the tile that two decimal numbers with one space between them name: its column and its row
unfoldable pub tile_in : Text → Option TileXy
tile_in text = tile_of (number_of (before_first (λ byte. byte == 32) text)) (number_of (after_first (λ byte. byte == 32) text))

-- the tile of an option that may be missing (`Some None`); `None` if the value isn't two numbers with one space between them
abbrev pub tile_given : Option Text → Option (Option TileXy)
tile_given None = Some None
tile_given (Some text) = option_map Some (tile_in text)

-- ---- the task

abbrev pub read_task : Option TileXy → Option Text → Text → Option Text → Task
read_task only layout db image =
    layout_task explain_name layout (record { name = Some db; limit = database_limit } ∷ record { name = image; limit = image_limit } ∷ [])
    None (explain_answer only)

-- there must be a database
abbrev pub explain_task_of : Option (Option TileXy) → Option Text → Option Text → Option Text → Task
explain_task_of (Some only) layout (Some db) image = read_task only layout db image
explain_task_of (Some only) layout None image = usage_error explain_name explain_usage
explain_task_of None layout db image = usage_error explain_name explain_usage

abbrev pub explain_task_by : List Row → Task
explain_task_by rows = explain_task_of (tile_given (first_of (codes "tile") rows)) (first_of (codes "layout") rows) (first_of (codes "db") rows) (first_of (codes "image") rows)

-- the tool
abbrev pub icebox_explain : Manual
icebox_explain = record { name = explain_name; usage = explain_usage; help = ICEBOX_EXPLAIN_HELP.now; app = explain_command; task = explain_task_by }

-- what the arguments of `icebox_explain` ask for, which may be its help
abbrev pub explain_outcome : List Text → Task
explain_outcome args = outcome icebox_explain args

-- the task of the request that was found in the arguments
abbrev pub explain_task_for : Option Request → Task
explain_task_for None = usage_error explain_name explain_usage
explain_task_for (Some request) = read_task request.only (text_of request.layout) request.db.now (text_of request.image)

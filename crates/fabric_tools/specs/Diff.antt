-- `icebox_diff`: tells what two images of one device differ in. The tool is this project's own.
use Rattle.std.specs.Prelude.{ℕ, Bool, true, false, List, [], ◌∷◌, codes, Option, None, Some}
use Rattle.clap.specs.Words.{App, Row, Text, first_of}
use Rattle.ice_image.specs.Configuration.{Configuration}
use Rattle.chipdb_reader.specs.Database.{Database}
use Rattle.image_diff.specs.declared.fault.DiffFault.{DiffFault}
use Rattle.image_diff.specs.Differences.{diff_fault_of, differences}
use Rattle.tool_run.specs.Needs.{text_of}
use Rattle.tool_run.specs.Tasks.{Answer, Done, Quiet, Refused, Task, layout_task, usage_error}
use Rattle.tool_inputs.specs.Outcomes.{Manual, outcome}
use Rattle.tool_inputs.specs.Commands.{command, flag, has_flag, long_option, required}
use Rattle.tool_inputs.specs.DesignInput.{two_answer}
use Rattle.tool_inputs.specs.Images.{image_limit}
use Rattle.tool_inputs.specs.Databases.{database_limit}
use Rattle.fabric_tools.specs.declared.comparing.Inputs.{Inputs}
use Rattle.fabric_tools.specs.declared.comparing.TheConstants.{ICEBOX_DIFF_HELP}
use Rattle.fabric_tools.specs.Faults.{diff_fault_text}

-- ---- the answer

-- the text of differences; with `-q` nothing is written, and a quiet answer tells that there are some
abbrev pub told_text : Bool → List ℕ → Answer
told_text false text = Done text
told_text true [] = Done []
told_text true (byte ∷ text) = Quiet

abbrev pub compared_with : Bool → List ℕ → Option DiffFault → Answer
compared_with quiet text None = told_text quiet text
compared_with quiet text (Some fault) = Refused (diff_fault_text fault)

-- what is told of two images, or the message if they aren't compared
abbrev pub compared : Bool → Database → Configuration → Configuration → Answer
compared quiet database first second = compared_with quiet (differences database first second) (diff_fault_of database first second)

-- the answer for the layout file, if one is named, and for the texts that were loaded: the database, and the images of files of these names
abbrev pub diff_answer : Bool → List ℕ → List ℕ → Option (List ℕ) → List (List ℕ) → Answer
diff_answer quiet first second layout texts = two_answer layout first second (compared quiet) texts

-- ---- the arguments

abbrev pub diff_name : List ℕ
diff_name = codes "icebox_diff"

abbrev pub diff_usage : List ℕ
diff_usage = codes "icebox_diff [--layout FILE] [-q] DB A B"

abbrev pub diff_command : App
diff_command = command diff_name (long_option (codes "layout") ∷ flag (codes "quiet") 113 ∷ required (codes "db") ∷ required (codes "first") ∷ required (codes "second") ∷ [])

-- ---- the task

-- the layout file if one is named, the database, and both images from files
abbrev pub compare_task : Bool → Option Text → Text → Text → Text → Task
compare_task quiet layout db first second =
    layout_task diff_name layout (
    record { name = Some db; limit = database_limit } ∷ record { name = Some first; limit = image_limit } ∷ record { name = Some second; limit = image_limit } ∷ []
    ) None (diff_answer quiet first second)

-- there must be a database and two images
abbrev pub diff_task_of : Bool → Option Text → Option Text → Option Text → Option Text → Task
diff_task_of quiet layout (Some db) (Some first) (Some second) = compare_task quiet layout db first second
diff_task_of quiet layout db first second = usage_error diff_name diff_usage

abbrev pub diff_task_by : List Row → Task
diff_task_by rows = diff_task_of (has_flag (codes "quiet") rows) (first_of (codes "layout") rows) (first_of (codes "db") rows) (first_of (codes "first") rows) (first_of (codes "second") rows)

-- the tool
abbrev pub icebox_diff : Manual
icebox_diff = record { name = diff_name; usage = diff_usage; help = ICEBOX_DIFF_HELP.now; app = diff_command; task = diff_task_by }

-- what the arguments of `icebox_diff` ask for, which may be its help
abbrev pub diff_outcome : List Text → Task
diff_outcome args = outcome icebox_diff args

-- the task of the inputs that were found in the arguments
abbrev pub diff_task_for : Option Inputs → Task
diff_task_for None = usage_error diff_name diff_usage
diff_task_for (Some inputs) = compare_task inputs.quiet (text_of inputs.layout) inputs.db.now inputs.first.now inputs.second.now

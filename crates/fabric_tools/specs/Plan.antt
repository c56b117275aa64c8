-- `icebox_plan`: draws the floor plan of an image.
use Rattle.std.specs.Prelude.{ℕ, Bool, List, [], ◌∷◌, codes, Option, None, Some}
use Rattle.clap.specs.Words.{App, Row, Text, first_of}
use Rattle.ice_image.specs.Configuration.{Configuration}
use Rattle.chipdb_reader.specs.Database.{Database}
use Rattle.pin_file.specs.declared.fault.PinFileFault.{PinFileFault}
use Rattle.pin_file.specs.Faults.{pin_fault_of}
use Rattle.pin_file.specs.GivenNames.{name_given}
use Rattle.pin_file.specs.Packages.{Package, package_of}
use Rattle.fabric_model.specs.Faults.{Fault}
use Rattle.image_stat.specs.Faults.{stat_fault}
use Rattle.plan_svg.specs.Names.{Names}
use Rattle.plan_marks.specs.Plans.{Plan}
use Rattle.plan_svg.specs.Svg.{plan_svg}
use Rattle.floor_plan.specs.Plans.{floor_plan}
use Rattle.tool_run.specs.Needs.{text_of}
use Rattle.tool_run.specs.Tasks.{Answer, Done, Refused, Task, layout_task, usage_error}
use Rattle.tool_inputs.specs.Outcomes.{Manual, outcome}
use Rattle.tool_inputs.specs.Commands.{command, has_flag, long_flag, long_option, positional, required, short_option}
use Rattle.tool_inputs.specs.DesignInput.{input_answer}
use Rattle.tool_inputs.specs.Images.{image_limit}
use Rattle.tool_inputs.specs.Databases.{database_limit}
use Rattle.design_answers.specs.Faults.{design_fault_text}
use Rattle.design_answers.specs.PinRequests.{Named, pins_in, pins_limit, pins_of_request}
use Rattle.design_answers.specs.Pins.{database_text, pin_fault_text, pin_text, texts_without_pins}
use Rattle.fabric_tools.specs.declared.plan_request.PlanRequest.{PlanRequest}
use Rattle.fabric_tools.specs.declared.plan_request.TheConstants.{ICEBOX_PLAN_HELP}

-- ---- the answer

-- the picture of the plan, if nothing is wrong
abbrev pub planned_with : Bool → Database → Configuration → Option Fault → Answer
planned_with all db image None = Done (plan_svg None (floor_plan all db image))
planned_with all db image (Some fault) = Refused (design_fault_text fault)

-- the picture without names, or the message that icebox_stat has if it counts nothing
abbrev pub planned : Bool → Database → Configuration → Answer
planned all db image = planned_with all db image (stat_fault all db image)

-- the picture of a plan with these names, or the message for the fault of a pin file
abbrev pub named_with : Plan → Names → Option PinFileFault → Answer
named_with plan names None = Done (plan_svg names plan)
named_with plan names (Some fault) = Refused (pin_fault_text fault)

-- the names are those that a pin file gives to pins of the chosen package
abbrev pub named_plan : Plan → Package → List ℕ → Answer
named_plan plan chosen file = named_with plan (Some (name_given chosen file)) (pin_fault_of chosen file)

-- a fault of the database and the image goes before one of the pin file
abbrev pub named_where : Bool → Package → List ℕ → Database → Configuration → Option Fault → Answer
named_where all chosen file db image None = named_plan (floor_plan all db image) chosen file
named_where all chosen file db image (Some fault) = Refused (design_fault_text fault)

abbrev pub planned_named : Bool → Package → List ℕ → Database → Configuration → Answer
planned_named all chosen file db image = named_where all chosen file db image (stat_fault all db image)

-- the answer without a pin file: for the layout file, if one is named, and for the texts after it: the database, and the image
abbrev pub plan_answer : Bool → Option (List ℕ) → List (List ℕ) → Answer
plan_answer all layout texts = input_answer layout (planned all) texts

-- the answer for the layout file, if one is named, and for the texts after it: the pin file, the database, and the image
abbrev pub named_answer : Bool → Option (List ℕ) → List ℕ → List (List ℕ) → Answer
named_answer all layout package_name texts =
    input_answer layout (planned_named all (package_of package_name (database_text texts)) (pin_text texts)) (texts_without_pins texts)

-- ---- the arguments

abbrev pub plan_name : List ℕ
plan_name = codes "icebox_plan"

abbrev pub plan_usage : List ℕ
plan_usage = codes "icebox_plan [--all-pins] [--layout FILE] [-p PCF -d PACKAGE] DB [IMAGE]"

abbrev pub plan_command : App
plan_command = command plan_name (long_flag (codes "all-pins") ∷ long_option (codes "layout") ∷ short_option (codes "pins") 112 ∷ short_option (codes "package") 100 ∷ required (codes "db") ∷ positional (codes "image") ∷ [])

-- ---- the task

-- the task without a pin file: it needs the database, and the image from a file or from standard input
abbrev pub draw_task : Bool → Option Text → Text → Option Text → Task
draw_task all layout db image =
    layout_task plan_name layout (record { name = Some db; limit = database_limit } ∷ record { name = image; limit = image_limit } ∷ [])
    None (plan_answer all)

-- the task with a pin file: it needs that, and what is needed without it
abbrev pub draw_named_task : Bool → Named → Option Text → Text → Option Text → Task
draw_named_task all pins layout db image =
    layout_task plan_name layout
    (record { name = Some pins.file; limit = pins_limit } ∷ record { name = Some db; limit = database_limit } ∷ record { name = image; limit = image_limit } ∷ [])
    None (λ file texts. named_answer all file pins.package_name texts)

-- the task with a pin file or without
abbrev pub task_with : Bool → Option Named → Option Text → Text → Option Text → Task
task_with all (Some pins) layout db image = draw_named_task all pins layout db image
task_with all None layout db image = draw_task all layout db image

-- There must be a database, and no pin file without a package. With `--all-pins` pins of every kind are taken.
abbrev pub plan_task_of : Bool → Option (Option Named) → Option Text → Option Text → Option Text → Task
plan_task_of all (Some pins) layout (Some db) image = task_with all pins layout db image
plan_task_of all (Some pins) layout None image = usage_error plan_name plan_usage
plan_task_of all None layout db image = usage_error plan_name plan_usage

abbrev pub plan_task_by : List Row → Task
plan_task_by rows = plan_task_of (has_flag (codes "all-pins") rows) (pins_in rows) (first_of (codes "layout") rows) (first_of (codes "db") rows) (first_of (codes "image") rows)

-- the tool
abbrev pub icebox_plan : Manual
icebox_plan = record { name = plan_name; usage = plan_usage; help = ICEBOX_PLAN_HELP.now; app = plan_command; task = plan_task_by }

-- what the arguments of `icebox_plan` ask for, which may be its help
abbrev pub plan_outcome : List Text → Task
plan_outcome args = outcome icebox_plan args

-- the task of the request that was found in the arguments
abbrev pub plan_task_for : Option PlanRequest → Task
plan_task_for None = usage_error plan_name plan_usage
plan_task_for (Some request) = task_with request.all_pins (pins_of_request request.pins) (text_of request.layout) request.db.now (text_of request.image)

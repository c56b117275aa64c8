-- `selfrun`: makes a design from a number, and takes it from its database and its image to its run.
use Rattle.std.specs.Prelude.{◌≡◌, ℕ, ◌^◌, ◌&&◌, List, [], ◌∷◌, length, codes, nat_lt, nat_le, if◌then◌else◌, Option, None, Some, Result, Ok, Err}
use Rattle.clap.specs.Words.{App, Row, Text, first_of, matches_of}
use Rattle.text_lines.specs.Words.{number_of}
use Rattle.seeds.specs.Seeds.{seed_of}
use Rattle.plane_map.specs.declared.device.DeviceName.{DeviceName}
use Rattle.ice_image.specs.Configuration.{Configuration}
use Rattle.plane_map.specs.DeviceWords.{database_device_named}
use Rattle.chipdb_reader.specs.Database.{Database}
use Rattle.ice_gen.specs.Database.{generated_database}
use Rattle.ice_gen.specs.Image.{generated_image}
use Rattle.ice_gen.specs.Events.{generated_events}
use Rattle.fabric_model.specs.Fabric.{fabric_of, inputs_of, no_options}
use Rattle.fabric_model.specs.Faults.{Fault, design_fault}
use Rattle.fabric_model.specs.Steps.{Event, Entry, IsRun}
use Rattle.tool_run.specs.Lines.{usage_text}
use Rattle.tool_run.specs.Tasks.{Answer, Done, Refused, UsageError, Task, at_once, helped}
use Rattle.tool_inputs.specs.Commands.{command, is_taken, positional}
use Rattle.tool_inputs.specs.Databases.{database_read}
use Rattle.design_answers.specs.Faults.{design_fault_text}
use Rattle.selfrun_tool.specs.declared.request.Request.{Request}
use Rattle.selfrun_tool.specs.declared.request.TheConstants.{SELFRUN_HELP}
use Rattle.selfrun_tool.specs.Counted.{counts_of, counts_text, events_for}

-- ---- the answer

abbrev pub image_for : Request → Configuration
image_for request = generated_image request.device request.seed

-- the events of the generated design that a run has, by the database of the device
abbrev pub run_events : Request → Database → List Event
run_events request db = events_for (inputs_of (fabric_of db (image_for request))) (generated_events request.seed request.events)

-- the counts of the one run of the fabric, which starts with all inputs at 0 and takes the events in their order
pub record IsCounted (request : Request) (db : Database) (answer : Answer) : Type 0 where
  pub entries : List Entry
  pub run : IsRun (fabric_of db (image_for request)) (run_events request db) entries
  pub answer_is : answer ≡ Done (counts_text request.device (counts_of db (image_for request) (run_events request db) entries))

-- the counts, or the message for the fault of the design
abbrev pub IsAnswerWith : Request → Database → Option Fault → Answer → Type 0
IsAnswerWith request db None answer = IsCounted request db answer
IsAnswerWith request db (Some fault) answer = answer ≡ Refused (design_fault_text fault)

-- a fault of the database goes before one of the design
abbrev pub IsAnswerBy : Request → Result Database (List ℕ) → Answer → Type 0
IsAnswerBy request (Err text) answer = answer ≡ Refused text
IsAnswerBy request (Ok db) answer = IsAnswerWith request db (design_fault no_options db (image_for request)) answer

-- whether this is the answer to a request
abbrev pub IsAnswer : Request → Answer → Type 0
IsAnswer request answer = IsAnswerBy request (database_read (generated_database request.device)) answer

-- ---- the arguments

abbrev pub selfrun_name : List ℕ
selfrun_name = codes "selfrun"

abbrev pub selfrun_usage : List ℕ
selfrun_usage = codes "selfrun DEVICE SEED EVENTS"

abbrev pub selfrun_command : App
selfrun_command = command selfrun_name (positional (codes "device") ∷ positional (codes "seed") ∷ positional (codes "events") ∷ [])

-- the greatest number of events
abbrev pub events_limit : ℕ
events_limit = 100000

abbrev pub within_limit : Option ℕ → Option ℕ
within_limit None = None
within_limit (Some count) = if nat_le count events_limit then Some count else None

-- how many events: a decimal number up to the greatest
abbrev pub events_count : Text → Option ℕ
events_count word = within_limit (number_of word)

-- a part of the arguments, if its word is there
abbrev pub given : {A : Type 0} → (Text → Option A) → Option Text → Option A
given part None = None
given part (Some word) = part word

abbrev pub request_with : Option DeviceName → Option ℕ → Option ℕ → Option Request
request_with (Some device) (Some seed) (Some events) = Some (record { device = device; seed = seed; events = events })
request_with (Some device) (Some seed) None = None
request_with (Some device) None events = None
request_with None seed events = None

abbrev pub request_by : List Row → Option Request
request_by rows =
    request_with (given database_device_named (first_of (codes "device") rows)) (given seed_of (first_of (codes "seed") rows))
    (given events_count (first_of (codes "events") rows))

-- what the arguments of `selfrun` ask for, if they are taken
unfoldable pub selfrun_request : List Text → Option Request
selfrun_request args = if is_taken selfrun_command args then request_by (matches_of selfrun_command args) else None

-- ---- the task

-- the answer to arguments that are taken, and to others
abbrev pub IsAnswerFor : Option Request → Answer → Type 0
IsAnswerFor (Some request) answer = IsAnswer request answer
IsAnswerFor None answer = answer ≡ UsageError (usage_text selfrun_usage)

-- whether this is the answer to the arguments of `selfrun`
abbrev pub IsSelfrunAnswer : List Text → Answer → Type 0
IsSelfrunAnswer args answer = IsAnswerFor (selfrun_request args) answer

-- what arguments ask for, by the answer to them: if they ask for help, the help comes in its place
abbrev pub selfrun_outcome : List Text → Answer → Task
selfrun_outcome args answer = helped selfrun_name SELFRUN_HELP.now args (at_once selfrun_name None answer)

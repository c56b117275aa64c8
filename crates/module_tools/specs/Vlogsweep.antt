-- `vlogsweep`: runs a module over several lists of events.
use Rattle.std.specs.Prelude.{◌≡◌, ◌≤◌, ℕ, ◌&&◌, Bool, List, [], ◌∷◌, ◌++◌, codes, drop, flat_map, get_or, length, map, nat_le, false, if◌then◌else◌, Option, None, Some, Result, Ok, Err}
use Rattle.std.specs.Option.{option_map}
use Rattle.std.specs.Borrow.{Bor}
use Rattle.clap.specs.Words.{App, Row, Text, first_of}
use Rattle.index_search.specs.Places.{or_else}
use Rattle.vlog_module.specs.Parts.{Parts}
use Rattle.vlog_module.specs.declared.modules.Port.{Port}
use Rattle.vlog_forms.specs.Outcome.{Fault, outcome_of}
use Rattle.long_runs.specs.declared.form.LineForm.{LineForm}
use Rattle.long_runs.specs.declared.form.Shown.{Shown}
use Rattle.long_runs.specs.declared.form.Shown.TheVariants.{All, Last}
use Rattle.long_runs.specs.Shown.{shown_text}
use Rattle.tool_run.specs.Lines.{refusal_text}
use Rattle.tool_run.specs.Needs.{Need}
use Rattle.tool_run.specs.Tasks.{Answer, Done, Refused, Task, plain_task, usage_error}
use Rattle.tool_run.specs.declared.tool.Stop.{Stop}
use Rattle.tool_run.specs.declared.tool.Stop.TheVariants as stop
use Rattle.tool_inputs.specs.Outcomes.{Manual, outcome}
use Rattle.tool_inputs.specs.Commands.{command, has_flag, long_flag, required, several, values_of}
use Rattle.module_tools.specs.declared.sweep_request.SweepRequest.{SweepRequest}
use Rattle.module_tools.specs.declared.sweep_request.TheConstants.{VLOGSWEEP_HELP}
use Rattle.module_tools.specs.declared.told.EventsForm.TheVariants.{Plain}
use Rattle.module_tools.specs.declared.told.SweepForm.{SweepForm}
use Rattle.module_tools.specs.Events.{events_in, list_fault}
use Rattle.module_tools.specs.Faults.{file_fault_text, vlog_fault_text}
use Rattle.module_tools.specs.Vlogrun.{events_form, module_limit, shown_by}

-- ---- lists of events

-- the most lists of events that a run takes, and the most bytes that each may have
abbrev pub most_lists : ℕ
most_lists = 64

abbrev pub list_limit : ℕ
list_limit = 65536

-- a list of events: the name of its file, and the bytes of that file
pub record EventFile : Type 0 where
  pub name : Text
  pub bytes : List ℕ

-- the files, from their names and their bytes, both in order
abbrev pub files_of : List Text → List (List ℕ) → List EventFile
files_of [] texts = []
files_of (name ∷ names) [] = []
files_of (name ∷ names) (text ∷ texts) = record { name = name; bytes = text } ∷ files_of names texts

-- the message for a file, if it is refused
abbrev pub file_refusal : SweepForm → List Port → EventFile → Option (List ℕ)
file_refusal form ports file = option_map (file_fault_text file.name) (list_fault form.events ports file.bytes)

-- the message for the first file that is refused, if there is one
abbrev pub first_refusal : SweepForm → List Port → List EventFile → Option (List ℕ)
first_refusal form ports [] = None
first_refusal form ports (file ∷ files) = or_else (file_refusal form ports file) (first_refusal form ports files)

-- ---- the answer for the module and the lists

-- the heading of a run, the line before its lines: the name of the file
abbrev pub heading_of : Text → List ℕ
heading_of name = codes "events " ++ name ++ 10 ∷ []

-- the outputs alone, without their names, in the lines that are shown
abbrev pub outputs_in : Shown → LineForm
outputs_in shown = record { shown = shown; registers = false; head = false }

-- the heading of a file, and the lines that are shown of the module's run over its events
abbrev pub file_text : SweepForm → Parts → EventFile → List ℕ
file_text form m file = heading_of file.name ++ shown_text m (events_in form.events m.ports file.bytes) (outputs_in form.shown)

-- the texts of all files, if none is refused
abbrev pub sweep_over : SweepForm → Parts → List EventFile → Option (List ℕ) → Answer
sweep_over form m files None = Done (flat_map (file_text form m) files)
sweep_over form m files (Some text) = Refused text

-- the texts of all files for the module that a text spells; a fault of that text goes before one of a file
abbrev pub sweep_of : SweepForm → Result Parts Fault → List EventFile → Answer
sweep_of form (Ok m) files = sweep_over form m files (first_refusal form m.ports files)
sweep_of form (Err fault) files = Refused (vlog_fault_text fault)

-- the form without flags: plain lists, and all lines
abbrev pub plain_form : SweepForm
plain_form = record { events = Plain; shown = All }

-- plain lists, and the last line of each run alone
abbrev pub last_form : SweepForm
last_form = record { events = Plain; shown = Last }

-- the answer for the texts that were loaded: the first is the module, the others are the lists of the files of these names
abbrev pub vlogsweep_answer : SweepForm → List Text → List (List ℕ) → Answer
vlogsweep_answer form names texts = sweep_of form (outcome_of (get_or texts 0 [])) (files_of names (drop 1 texts))

-- ---- the task

abbrev pub vlogsweep_name : List ℕ
vlogsweep_name = codes "vlogsweep"

abbrev pub vlogsweep_usage : List ℕ
vlogsweep_usage = codes "vlogsweep [--long] [--changes | --last] MODULE EVENTS [EVENTS ...]"

abbrev pub vlogsweep_command : App
vlogsweep_command =
    command vlogsweep_name (long_flag (codes "long") ∷ long_flag (codes "changes") ∷ long_flag (codes "last") ∷ required (codes "module") ∷ several (codes "events") ∷ [])

abbrev pub list_need : Text → Need
list_need name = record { name = Some name; limit = list_limit }

-- the module, then the lists in their order
abbrev pub sweep_needs : Text → List Text → List Need
sweep_needs text names = record { name = Some text; limit = module_limit } ∷ map list_need names

abbrev pub task_over : List Need → SweepForm → List Text → Task
task_over needs form names = plain_task vlogsweep_name needs None (vlogsweep_answer form names)

abbrev pub sweep_task : SweepForm → Text → List Text → Task
sweep_task form text names = task_over (sweep_needs text names) form names

-- at least one list and at most sixty-four are taken
abbrev pub counted_task : SweepForm → Text → List Text → Task
counted_task form text names =
    if nat_le 1 (length names) && nat_le (length names) most_lists then sweep_task form text names else usage_error vlogsweep_name vlogsweep_usage

-- the form of the lists and the lines that are shown, by `--long` and by what is shown; `--changes` and `--last` aren't taken together
abbrev pub sweep_form : Bool → Option Shown → Option SweepForm
sweep_form long (Some shown) = Some (record { events = events_form long; shown = shown })
sweep_form long None = None

-- there must be a module
abbrev pub vlogsweep_task_of : Option SweepForm → Option Text → List Text → Task
vlogsweep_task_of (Some form) (Some text) names = counted_task form text names
vlogsweep_task_of (Some form) None names = usage_error vlogsweep_name vlogsweep_usage
vlogsweep_task_of None text names = usage_error vlogsweep_name vlogsweep_usage

-- the form by the arguments
abbrev pub sweep_form_in : List Row → Option SweepForm
sweep_form_in rows = sweep_form (has_flag (codes "long") rows) (shown_by (has_flag (codes "changes") rows) (has_flag (codes "last") rows))

abbrev pub vlogsweep_task_by : List Row → Task
vlogsweep_task_by rows = vlogsweep_task_of (sweep_form_in rows) (first_of (codes "module") rows) (values_of (codes "events") rows)

-- the tool
abbrev pub vlogsweep : Manual
vlogsweep = record { name = vlogsweep_name; usage = vlogsweep_usage; help = VLOGSWEEP_HELP.now; app = vlogsweep_command; task = vlogsweep_task_by }

-- what the arguments of `vlogsweep` ask for, which may be its help
abbrev pub vlogsweep_outcome : List Text → Task
vlogsweep_outcome args = outcome vlogsweep args

-- ---- what was found

-- names that were found, as texts
abbrev pub names_of : List (Bor Text) → List Text
names_of names = map (λ name. name.now) names

-- the task of the request that was found in the arguments
abbrev pub vlogsweep_task_for : Option SweepRequest → Task
vlogsweep_task_for None = usage_error vlogsweep_name vlogsweep_usage
vlogsweep_task_for (Some request) = sweep_task request.form request.«module».now (names_of request.names.items)

-- a request has at most sixty-four lists
abbrev pub IsFew : Option SweepRequest → Type 0
IsFew None = Unit {0}
IsFew (Some request) = length request.names.items ≤ most_lists

-- a stop tells this refusal, or that memory is out
abbrev pub TellsRefusal : Option (List ℕ) → Stop → Type 0
TellsRefusal refusal (stop.Refused told) = refusal ≡ Some (refusal_text told)
TellsRefusal refusal stop.Quiet = ⊥
TellsRefusal refusal (stop.UsageError told) = ⊥
TellsRefusal refusal stop.Memory = Unit {0}

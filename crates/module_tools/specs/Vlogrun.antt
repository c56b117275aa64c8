-- `vlogrun`: runs a module over a list of events.
use Rattle.std.specs.Prelude.{ℕ, Bool, true, false, ◌||◌, List, [], ◌∷◌, codes, get_or, length, Option, None, Some, Result, Ok, Err, is_some, if◌then◌else◌}
use Rattle.clap.specs.Words.{App, Row, Text, first_of}
use Rattle.vlog_module.specs.Parts.{Parts}
use Rattle.vlog_forms.specs.Outcome.{Fault, outcome_of}
use Rattle.long_events.specs.declared.fault.LongFault.{LongFault}
use Rattle.long_events.specs.declared.fault.LongFault.TheVariants as fault
use Rattle.long_runs.specs.declared.form.Shown.{Shown}
use Rattle.long_runs.specs.declared.form.Shown.TheVariants.{All, Changes, Last}
use Rattle.long_runs.specs.Shown.{is_countable, shown_text}
use Rattle.vlog_semantics.specs.declared.event.Event.{Event}
use Rattle.wire_names.specs.Faults.{names_fault_of, wires_named}
use Rattle.wire_names.specs.declared.fault.WireNamesFault.{WireNamesFault}
use Rattle.vlog_waves.specs.Sizes.{waves_fit}
use Rattle.vlog_waves.specs.Waves.{waves_text}
use Rattle.tool_run.specs.Needs.{Need, text_of}
use Rattle.tool_run.specs.Tasks.{Answer, Done, Refused, Task, plain_task, usage_error}
use Rattle.tool_inputs.specs.Outcomes.{Manual, outcome}
use Rattle.tool_inputs.specs.Commands.{command, flag, has_flag, long_flag, long_option, positional, required}
use Rattle.module_tools.specs.declared.request.LineFlags.{LineFlags}
use Rattle.module_tools.specs.declared.request.Request.{Request}
use Rattle.module_tools.specs.declared.told.EventsForm.{EventsForm}
use Rattle.module_tools.specs.declared.told.EventsForm.TheVariants.{Plain, Long}
use Rattle.module_tools.specs.declared.told.Told.{Told}
use Rattle.module_tools.specs.declared.told.Told.TheVariants.{Lines, Waves}
use Rattle.module_tools.specs.declared.request.TheConstants.{VLOGRUN_HELP}
use Rattle.module_tools.specs.Events.{events_in, list_fault}
use Rattle.module_tools.specs.Faults.{list_fault_text, names_fault_text, vlog_fault_text}

-- ---- the answer for the texts

-- the most bytes that the text of a module may have
abbrev pub module_limit : ℕ
module_limit = 67108864

-- the most bytes that a list of events may have
abbrev pub events_limit : ℕ
events_limit = 1048576

-- the most bytes that a list of names may have
abbrev pub names_limit : ℕ
names_limit = 16777216

-- the text of a module's run over events: its lines that are shown, or its waves with these names of wires, a value change dump (IEEE Std
-- 1364-2005, clause 18). Lines and waves that may have more bytes than 64 bits count are refused.
abbrev pub told_answer : Told → List (List ℕ × List ℕ) → Parts → List Event → Answer
told_answer (Lines form) names m events = if is_countable m (length events) form then Done (shown_text m events form) else Refused (list_fault_text fault.Long)
told_answer Waves names m events = if waves_fit names m (length events) then Done (waves_text names m events) else Refused (list_fault_text fault.Long)

-- the text of a module's run over a list of events, or the message for the first fault of the list
abbrev pub run_over : Told → EventsForm → List (List ℕ × List ℕ) → Parts → List ℕ → Option LongFault → Answer
run_over told form names m events None = told_answer told names m (events_in form m.ports events)
run_over told form names m events (Some fault) = Refused (list_fault_text fault)

-- the text of the run of the module that a text spells; a fault of that text goes before one of the events
abbrev pub run_of : Told → EventsForm → Result Parts Fault → List ℕ → Answer
run_of told form (Ok m) events = run_over told form [] m events (list_fault form m.ports events)
run_of told form (Err fault) events = Refused (vlog_fault_text fault)

abbrev pub vlogrun_answer : Told → EventsForm → List (List ℕ) → Answer
vlogrun_answer told form texts = run_of told form (outcome_of (get_or texts 0 [])) (get_or texts 1 [])

-- the waves of a module's run, in which wires have the names of a list, or the message for the first fault of that list; this goes before
-- one of the events
abbrev pub waves_over : EventsForm → Parts → List ℕ → List ℕ → Option WireNamesFault → Answer
waves_over form m list events None = run_over Waves form (wires_named list) m events (list_fault form m.ports events)
waves_over form m list events (Some fault) = Refused (names_fault_text fault)

-- these waves for the module that a text spells; a fault of that text goes first
abbrev pub waves_of : EventsForm → Result Parts Fault → List ℕ → List ℕ → Answer
waves_of form (Ok m) list events = waves_over form m list events (names_fault_of m list)
waves_of form (Err fault) list events = Refused (vlog_fault_text fault)

abbrev pub waves_answer : EventsForm → List (List ℕ) → Answer
waves_answer form texts = waves_of form (outcome_of (get_or texts 0 [])) (get_or texts 1 []) (get_or texts 2 [])

-- ---- the task

abbrev pub vlogrun_name : List ℕ
vlogrun_name = codes "vlogrun"

abbrev pub vlogrun_usage : List ℕ
vlogrun_usage = codes "vlogrun [--long] [[-s] [--changes | --last] [--head] | --vcd [--names FILE]] MODULE [EVENTS]"

abbrev pub vlogrun_command : App
vlogrun_command =
    command vlogrun_name
    (long_flag (codes "long") ∷ flag (codes "registers") 115 ∷ long_flag (codes "changes") ∷ long_flag (codes "last") ∷ long_flag (codes "head") ∷ long_flag (codes "vcd") ∷ long_option (codes "names")
    ∷ required (codes "module") ∷ positional (codes "events") ∷ [])

-- the module, and the events from a file or from standard input
abbrev pub run_needs : Text → Option Text → List Need
run_needs text events = record { name = Some text; limit = module_limit } ∷ record { name = events; limit = events_limit } ∷ []

abbrev pub run_task : Told → EventsForm → Text → Option Text → Task
run_task told form text events = plain_task vlogrun_name (run_needs text events) None (vlogrun_answer told form)

-- the module, the list of names, and the events
abbrev pub waves_needs : Text → Text → Option Text → List Need
waves_needs list text events =
    record { name = Some text; limit = module_limit } ∷ record { name = Some list; limit = names_limit } ∷ record { name = events; limit = events_limit } ∷ []

abbrev pub waves_task : EventsForm → Text → Text → Option Text → Task
waves_task form list text events = plain_task vlogrun_name (waves_needs list text events) None (waves_answer form)

-- the task for what the run tells; a list of names is for waves
abbrev pub task_for : Told → EventsForm → Option Text → Text → Option Text → Task
task_for Waves form (Some list) text events = waves_task form list text events
task_for told form list text events = run_task told form text events

-- the form of the list of events, by `--long`
abbrev pub events_form : Bool → EventsForm
events_form long = if long then Long else Plain

-- the lines that are shown, by `--changes` and by `--last`, which aren't taken together
abbrev pub shown_by : Bool → Bool → Option Shown
shown_by false false = Some All
shown_by true false = Some Changes
shown_by false true = Some Last
shown_by true true = None

-- lines, by `-s`, by `--head`, and by those that are shown
abbrev pub lines_by : LineFlags → Option Shown → Option Told
lines_by flags (Some shown) = Some (Lines (record { shown = shown; registers = flags.registers; head = flags.head }))
lines_by flags None = None

-- whether something is asked for that only lines have
abbrev pub has_lines : LineFlags → Bool
has_lines flags = flags.registers || (flags.changes || (flags.last || flags.head))

-- What the run tells, by `--vcd`, by whether a list of names is named, and by `-s`, `--changes`, `--last` and `--head`. Waves show all
-- registers and what changes, so `--vcd` isn't taken with any of these; and lines have no names of wires, so a list of names is taken with
-- `--vcd` only.
abbrev pub told_by : Bool → Bool → LineFlags → Option Told
told_by false false flags = lines_by flags (shown_by flags.changes flags.last)
told_by false true flags = None
told_by true has_names flags = if has_lines flags then None else Some Waves

-- there must be a module
abbrev pub vlogrun_task_of : Option Told → EventsForm → Option Text → Option Text → Option Text → Task
vlogrun_task_of (Some told) form list (Some text) events = task_for told form list text events
vlogrun_task_of (Some told) form list None events = usage_error vlogrun_name vlogrun_usage
vlogrun_task_of None form list text events = usage_error vlogrun_name vlogrun_usage

-- the list of names that the arguments name
abbrev pub list_in : List Row → Option Text
list_in rows = first_of (codes "names") rows

-- what is asked for that only lines have, by the arguments
abbrev pub line_flags : List Row → LineFlags
line_flags rows = record {
  registers = has_flag (codes "registers") rows;
  changes = has_flag (codes "changes") rows;
  last = has_flag (codes "last") rows;
  head = has_flag (codes "head") rows;
}

-- what the run tells, by the arguments
abbrev pub told_in : List Row → Option Told
told_in rows = told_by (has_flag (codes "vcd") rows) (is_some (list_in rows)) (line_flags rows)

-- the form of the list of events, by the arguments
abbrev pub form_in : List Row → EventsForm
form_in rows = events_form (has_flag (codes "long") rows)

abbrev pub vlogrun_task_by : List Row → Task
vlogrun_task_by rows = vlogrun_task_of (told_in rows) (form_in rows) (list_in rows) (first_of (codes "module") rows) (first_of (codes "events") rows)

-- the tool
abbrev pub vlogrun : Manual
vlogrun = record { name = vlogrun_name; usage = vlogrun_usage; help = VLOGRUN_HELP.now; app = vlogrun_command; task = vlogrun_task_by }

-- what the arguments of `vlogrun` ask for, which may be its help
abbrev pub vlogrun_outcome : List Text → Task
vlogrun_outcome args = outcome vlogrun args

-- the task of the request that was found in the arguments
abbrev pub vlogrun_task_for : Option Request → Task
vlogrun_task_for None = usage_error vlogrun_name vlogrun_usage
vlogrun_task_for (Some request) = task_for request.told request.form (text_of request.names) request.«module».now (text_of request.events)

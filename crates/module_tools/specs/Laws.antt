-- Laws of the command lines of the tools: each command is simple, as `clap`'s statement needs it, and each task has the name of its tool.
use Rattle.std.specs.Prelude.{◌≡◌, ◌&&◌, Bool, true, false, List, codes, if◌then◌else◌, length, nat_le, refl, Option, None, Some}
use Rattle.clap.specs.Words.{Row, Text, first_of, is_simple_and_free}
use Rattle.clap.proofs.OnLiterals.{clap_on_literals}
use Rattle.tool_run.specs.Tasks.{usage_error}
use Rattle.tool_inputs.specs.Commands.{values_of}
use Rattle.module_tools.specs.declared.told.EventsForm.{EventsForm}
use Rattle.module_tools.specs.declared.told.SweepForm.{SweepForm}
use Rattle.module_tools.specs.declared.told.Told.{Told}
use Rattle.module_tools.specs.declared.told.Told.TheVariants.{Lines, Waves}
use Rattle.module_tools.specs.Vlogrun.{form_in, list_in, task_for, told_in, vlogrun_command, vlogrun_name, vlogrun_task_by, vlogrun_task_of}
use Rattle.module_tools.specs.Vlogsweep.{most_lists, sweep_form_in, sweep_task, vlogsweep_command, vlogsweep_name, vlogsweep_task_by, vlogsweep_task_of, vlogsweep_usage}

-- ---- vlogrun

pub vlogrun-simple : is_simple_and_free vlogrun_command ≡ true
unfolding clap_on_literals
vlogrun-simple = refl

for-speaks : (told : Told) (form : EventsForm) (list : Option Text) (text : Text) (events : Option Text) → (task_for told form list text events).tool_name ≡ vlogrun_name
for-speaks Waves form (Some list) text events = refl
for-speaks Waves form None text events = refl
for-speaks (Lines lines) form list text events = refl

of-speaks : (told : Option Told) (form : EventsForm) (list text events : Option Text) → (vlogrun_task_of told form list text events).tool_name ≡ vlogrun_name
of-speaks (Some told) form list (Some text) events = for-speaks told form list text events
of-speaks (Some told) form list None events = refl
of-speaks None form list text events = refl

pub vlogrun-speaks : (rows : List Row) → (vlogrun_task_by rows).tool_name ≡ vlogrun_name
vlogrun-speaks rows = of-speaks (told_in rows) (form_in rows) (list_in rows) (first_of (codes "module") rows) (first_of (codes "events") rows)

-- ---- vlogsweep

pub vlogsweep-simple : is_simple_and_free vlogsweep_command ≡ true
unfolding clap_on_literals
vlogsweep-simple = refl

counted-speaks : (counts : Bool) (form : SweepForm) (text : Text) (names : List Text)
    → (if counts then sweep_task form text names else usage_error vlogsweep_name vlogsweep_usage).tool_name ≡ vlogsweep_name
counted-speaks true form text names = refl
counted-speaks false form text names = refl

sweep-speaks : (form : Option SweepForm) (text : Option Text) (names : List Text) → (vlogsweep_task_of form text names).tool_name ≡ vlogsweep_name
sweep-speaks (Some form) (Some text) names = counted-speaks (nat_le 1 (length names) && nat_le (length names) most_lists) form text names
sweep-speaks (Some form) None names = refl
sweep-speaks None text names = refl

pub vlogsweep-speaks : (rows : List Row) → (vlogsweep_task_by rows).tool_name ≡ vlogsweep_name
vlogsweep-speaks rows = sweep-speaks (sweep_form_in rows) (first_of (codes "module") rows) (values_of (codes "events") rows)

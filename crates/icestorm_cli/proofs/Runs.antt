-- What a run of `vlogrun` appends if its text spells the module of a design.
use Rattle.std.proofs.Common.{◌≡◌, ◌∙◌, ℕ, Bool, true, false, List, [], codes, refl, sym, ap, subst}
use Rattle.std.specs.Prelude.{Option, Some, None, get_or, if◌then◌else◌, is_some, length}
use Rattle.clap.specs.Words.{Text, first_of, matches_of}
use Rattle.ice_image.specs.Configuration.{Configuration}
use Rattle.chipdb_reader.specs.Database.{Database}
use Rattle.vlog_module.specs.Parts.{Parts}
use Rattle.vlog_forms.specs.Items.{IsSpelling}
use Rattle.vlog_forms.specs.Outcome.{outcome_of}
use Rattle.vlog_forms.proofs.Spelled.{outcome-spelled}
use Rattle.vlog_run.specs.Events.{events_of}
use Rattle.vlog_run.specs.Text.{run_text}
use Rattle.long_events.specs.declared.fault.LongFault.{LongFault}
use Rattle.long_events.specs.declared.fault.LongFault.TheVariants as fault
use Rattle.long_runs.specs.declared.form.LineForm.{LineForm}
use Rattle.long_runs.specs.declared.form.Shown.TheVariants.{All}
use Rattle.long_runs.specs.Shown.{is_countable, shown_text}
use Rattle.long_runs.proofs.Plain.{shown-plain}
use Rattle.fabric_model.specs.Fabric.{fabric_with}
use Rattle.fabric_model.specs.Steps.{Entry, IsRun}
use Rattle.fabric_module.specs.Names.{input_port_name, output_name}
use Rattle.fabric_module.specs.Written.{module_of, ports_of}
use Rattle.fabric_module.proofs.Design.{design-is-module}
use Rattle.pin_file.specs.declared.pin_name.PinName.{PinName}
use Rattle.port_names.specs.Named.{named_input, named_module, named_output}
use Rattle.port_names.proofs.IsFabric.{named-is-fabric}
use Rattle.tool_run.specs.Runs.{Does, Outside, Scene}
use Rattle.tool_run.specs.Tasks.{Both, Done, Refused, Task, usage_error}
use Rattle.tool_inputs.specs.Commands.{is_taken}
use Rattle.tool_inputs.specs.Outcomes.{asked}
use Rattle.tool_inputs.proofs.Appended.{helped-kept}
use Rattle.tool_inputs.proofs.CommandLines.{helped-no}
use Rattle.module_tools.specs.declared.request.TheConstants.{VLOGRUN_HELP}
use Rattle.module_tools.specs.declared.told.EventsForm.{EventsForm}
use Rattle.module_tools.specs.declared.told.EventsForm.TheVariants.{Plain}
use Rattle.module_tools.specs.declared.told.Told.{Told}
use Rattle.module_tools.specs.declared.told.Told.TheVariants.{Lines, Waves}
use Rattle.module_tools.specs.Events.{list_fault}
use Rattle.module_tools.specs.Faults.{list_fault_text}
use Rattle.module_tools.specs.Vlogrun.{events_form, form_in, list_in, run_of, run_over, task_for, told_by, told_in, vlogrun, vlogrun_command, vlogrun_name, vlogrun_outcome, vlogrun_task_by, vlogrun_task_of, vlogrun_usage}
use Rattle.design_answers.specs.Lines.{fabric_events, fabric_text}
use Rattle.design_answers.proofs.Lines.{run-shown}
use Rattle.icestorm_cli.specs.Runs.{IsModuleOf, PromisesRun, RunsFabric, TellsAll, asks, fabric_for, ports_with, shows_registers}

-- ---- the lines

done-same : (one other beside : List ℕ) → Done one ≡ Both other beside → one ≡ other
done-same one other beside same = cc

-- all lines, without the names before them
abbrev all_lines : Bool → Told
all_lines registers = Lines (record { shown = All; registers = registers; head = false })

-- what is written if the events have no fault
over-done : (registers : Bool) (m : Parts) (events lines beside : List ℕ) (fault : Option LongFault) → run_over (all_lines registers) Plain [] m events fault ≡ Both lines beside
    → lines ≡ run_text m (events_of m.ports events) registers
over-done registers m events lines beside None is =
    by_test (is_countable m (length (events_of m.ports events)) (record { shown = All; registers = registers; head = false })) is
    ∙ shown-plain m (events_of m.ports events) registers
  where
    by_test : (countable : Bool) → (if countable then Done (shown_text m (events_of m.ports events) (record { shown = All; registers = registers; head = false })) else Refused (list_fault_text fault.Long)) ≡ Both lines beside → lines ≡ (shown_text m (events_of m.ports events) (record { shown = All; registers = registers; head = false }))
    by_test true same = sym (done-same (shown_text m (events_of m.ports events) (record { shown = All; registers = registers; head = false })) lines beside same)
    by_test false same = absurd cc
over-done registers m events lines beside (Some fault) is = absurd cc

-- what is written for a text that spells a module
spelled-done : (registers : Bool) (m : Parts) (text events lines beside : List ℕ) → IsSpelling text m → run_of (all_lines registers) Plain (outcome_of text) events ≡ Both lines beside
    → lines ≡ run_text m (events_of m.ports events) registers
spelled-done registers m text events lines beside spells done =
    over-done registers m events lines beside (list_fault Plain m.ports events)
    (sym (ap (λ outcome. run_of (all_lines registers) Plain outcome events) (outcome-spelled text m spells)) ∙ done)

-- the lines for the module of a design
own-shown : (db : Database) (image : Configuration) (m : Parts) (is : IsModuleOf None db image m) → (registers : Bool) (events : List ℕ) (entries : List Entry)
    → IsRun (fabric_for is.design db image) (fabric_events (ports_with None (fabric_for is.design db image)) events) entries → run_text m (events_of m.ports events) registers ≡ fabric_text registers entries
unfolding module_of fabric_with
own-shown db image m is registers events entries run =
    let fabric = fabric_for is.design db image in
    let options = is.design.parts.options in
    let design = is.is_design in
    let shown = run-shown input_port_name output_name fabric (module_of (fabric_with options db image) is.design.order is.name) registers events entries
    (design-is-module options db image design.fit design.few design.taken is.design.order design.kept.order is.name (fabric_events (ports_of fabric) events) entries run) in
    subst (λ (one : Parts). run_text one (events_of one.ports events) registers ≡ fabric_text registers entries) (sym is.is) shown

-- the lines for the module with the names of a pin file
named-shown : (named : List PinName) (db : Database) (image : Configuration) (m : Parts) (is : IsModuleOf (Some named) db image m) → (registers : Bool) (events : List ℕ) (entries : List Entry)
    → IsRun (fabric_for is.design db image) (fabric_events (ports_with (Some named) (fabric_for is.design db image)) events) entries → run_text m (events_of m.ports events) registers ≡ fabric_text registers entries
named-shown named db image m is registers events entries run =
    let options = is.design.parts.options in
    let design = is.is_design in
    let made = named_module named (fabric_with options db image) is.design.order is.name in
    let runs = (named-is-fabric named options db image design.fit design.few design.taken is.are_taken is.design.order is.name design.kept.order is.is_name).1 in
    let shown = run-shown (named_input named) (named_output named) (fabric_for is.design db image) made registers events entries
    (runs.alike (fabric_events made.ports events) entries (subst (λ ports. IsRun (fabric_for is.design db image) (fabric_events ports events) entries) (sym runs.ports) run)) in
    subst (λ (one : Parts). run_text one (events_of one.ports events) registers ≡ fabric_text registers entries) (sym is.is) shown

module-shown : (names : Option (List PinName)) (db : Database) (image : Configuration) (m : Parts) (is : IsModuleOf names db image m) → (registers : Bool) (events : List ℕ) (entries : List Entry)
    → IsRun (fabric_for is.design db image) (fabric_events (ports_with names (fabric_for is.design db image)) events) entries → run_text m (events_of m.ports events) registers ≡ fabric_text registers entries
module-shown None = own-shown
module-shown (Some named) = named-shown named

-- ---- the task

-- what a task makes of texts
abbrev TaskRuns : Bool → Task → Type 0
TaskRuns registers task = (texts : List (List ℕ)) (bytes beside : List ℕ) → task.answer texts ≡ Both bytes beside → RunsFabric registers texts bytes

task-of : (waves long registers changes last head : Bool) (list text events : Option Text) → waves ≡ false → long ≡ false → changes ≡ false → last ≡ false → head ≡ false
    → TaskRuns registers
    (vlogrun_task_of (told_by waves (is_some list) (record { registers = registers; changes = changes; last = last; head = head })) (events_form long) list text events)
task-of false false registers false false false None (Some text) events lines plain unfiltered each nameless = λ texts bytes beside done names db image m is spells entries run.
    spelled-done registers m (get_or texts 0 []) (get_or texts 1 []) bytes beside spells done ∙ module-shown names db image m is registers (get_or texts 1 []) entries run
task-of false false registers false false false None None events lines plain unfiltered each nameless = λ texts bytes beside done. absurd cc
task-of false false registers false false false (Some list) text events lines plain unfiltered each nameless = λ texts bytes beside done. absurd cc
task-of false false registers false false true list text events lines plain unfiltered each nameless = absurd cc
task-of false false registers false true head list text events lines plain unfiltered each nameless = absurd cc
task-of false false registers true last head list text events lines plain unfiltered each nameless = absurd cc
task-of false true registers changes last head list text events lines plain unfiltered each nameless = absurd cc
task-of true long registers changes last head list text events lines plain unfiltered each nameless = absurd cc

for-target : (told : Told) (form : EventsForm) (list : Option Text) (text : Text) (events : Option Text) → (task_for told form list text events).target ≡ None
for-target Waves form (Some list) text events = refl
for-target Waves form None text events = refl
for-target (Lines lines) form list text events = refl

target-of : (told : Option Told) (form : EventsForm) (list text events : Option Text) → (vlogrun_task_of told form list text events).target ≡ None
target-of (Some told) form list (Some text) events = for-target told form list text events
target-of (Some told) form list None events = refl
target-of None form list text events = refl

module _ (args : List Text) where
  task-runs : TellsAll args → TaskRuns (shows_registers args) (asked vlogrun args)
  unfolding asked
  task-runs tells = by_case (is_taken vlogrun_command args)
    where
      by_case : (taken : Bool) → TaskRuns (shows_registers args) (if taken then vlogrun_task_by (matches_of vlogrun_command args) else usage_error vlogrun_name vlogrun_usage)
      by_case true =
          task-of (asks (codes "vcd") args) (asks (codes "long") args) (shows_registers args) (asks (codes "changes") args) (asks (codes "last") args) (asks (codes "head") args)
          (list_in (matches_of vlogrun_command args)) (first_of (codes "module") (matches_of vlogrun_command args))
          (first_of (codes "events") (matches_of vlogrun_command args)) tells.lines tells.plain tells.unfiltered tells.each tells.nameless
      by_case false = λ texts bytes beside done. absurd cc

  -- the lines go to standard output
  task-target : (asked vlogrun args).target ≡ None
  unfolding asked
  task-target = by_case (is_taken vlogrun_command args)
    where
      by_case : (taken : Bool) → (if taken then vlogrun_task_by (matches_of vlogrun_command args) else usage_error vlogrun_name vlogrun_usage).target ≡ None
      by_case true =
          target-of (told_in (matches_of vlogrun_command args)) (form_in (matches_of vlogrun_command args)) (list_in (matches_of vlogrun_command args)) (first_of (codes "module") (matches_of vlogrun_command args))
          (first_of (codes "events") (matches_of vlogrun_command args))
      by_case false = refl

  pub run-kept : {F I O E : Type 0} (by : Outside F I O E) (status : ℕ) (old new : Scene F I O E) → Does by (vlogrun_outcome args) status old new
      → PromisesRun by args status old new
  run-kept by status old new does done helps tells =
      let same : asked vlogrun args ≡ vlogrun_outcome args = helped-no vlogrun_name VLOGRUN_HELP.now args (asked vlogrun args) helps in
      helped-kept (RunsFabric (shows_registers args)) by (asked vlogrun args) (vlogrun_outcome args) status old new same (task-runs tells) task-target does done

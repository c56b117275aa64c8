-- The arguments have exactly one answer.
use Rattle.std.proofs.Common.{◌≡◌, ℕ, List, refl, sym, ap, ◌∙◌, subst}
use Rattle.std.specs.Prelude.{Option, Some, None, Result, Ok, Err}
use Rattle.plane_map.specs.declared.device.DeviceName.{DeviceName}
use Rattle.chipdb_reader.specs.Database.{Database}
use Rattle.chipdb_reader.specs.Fit.{IsFit}
use Rattle.ice_gen.specs.Database.{generated_database}
use Rattle.fabric_model.specs.Faults.{Fault, design_fault}
use Rattle.fabric_model.specs.Fabric.{Fabric, fabric_of, no_options}
use Rattle.fabric_model.specs.Steps.{Event, Entry, IsRun}
use Rattle.fabric_model.specs.Unique.{ExactlyOne}
use Rattle.fabric_model.proofs.Alike.{design-run}
use Rattle.fabric.specs.declared.fault.FabricFault.{FabricFault}
use Rattle.fabric.specs.Faults.{IsCause}
use Rattle.tool_run.specs.Lines.{usage_text, refusal_text}
use Rattle.tool_run.specs.Tasks.{Answer, Done, Refused, UsageError}
use Rattle.tool_run.specs.declared.tool.Stop.{Stop}
use Rattle.tool_run.specs.declared.tool.Stop.TheVariants as stop
use Rattle.tool_inputs.specs.Databases.{StopsDatabase, database_read}
use Rattle.design_answers.specs.Faults.{StopsFor, design_fault_text, told_fault}
use Rattle.tool_inputs.proofs.Databases.{read-fit}
use Rattle.design_answers.proofs.Causes.{cause-told}
use Rattle.selfrun_tool.specs.declared.request.Request.{Request}
use Rattle.selfrun_tool.specs.Counted.{counts_of, counts_text}
use Rattle.selfrun_tool.specs.Inside.{StopsAs}
use Rattle.selfrun_tool.specs.Selfrun.{IsAnswerBy, IsAnswerFor, IsAnswerWith, IsCounted, image_for, run_events, selfrun_usage}

-- what is told of entries
abbrev told_by : Request → Database → List Entry → Answer
told_by request db entries = Done (counts_text request.device (counts_of db (image_for request) (run_events request db) entries))

one-counted : (request : Request) (db : Database) → IsFit db → design_fault no_options db (image_for request) ≡ None → ExactlyOne (IsCounted request db)
one-counted request db fit none =
    let run = design-run no_options db (image_for request) fit none (run_events request db) in
    record {
      it = told_by request db run.it;
      is = record { entries = run.it; run = run.is; answer_is = refl };
      only = λ other counted. counted.answer_is ∙ ap (told_by request db) (run.only counted.entries counted.run);
    }

one-with : (request : Request) (db : Database) → IsFit db → (fault : Option Fault) → design_fault no_options db (image_for request) ≡ fault → ExactlyOne (IsAnswerWith request db fault)
one-with request db fit None is = one-counted request db fit is
one-with request db fit (Some fault) is = record { it = Refused (design_fault_text fault); is = refl; only = λ other same. same }

one-by : (request : Request) (read : Result Database (List ℕ)) → database_read (generated_database request.device) ≡ read → ExactlyOne (IsAnswerBy request read)
one-by request (Err text) is = record { it = Refused text; is = refl; only = λ other same. same }
one-by request (Ok db) is = one-with request db (read-fit (generated_database request.device) db is) (design_fault no_options db (image_for request)) refl

pub one-answer : (request : Option Request) → ExactlyOne (IsAnswerFor request)
one-answer None = record { it = UsageError (usage_text selfrun_usage); is = refl; only = λ other same. same }
one-answer (Some request) = one-by request (database_read (generated_database request.device)) refl

pub same-answer : (request : Option Request) (one other : Answer) → IsAnswerFor request one → IsAnswerFor request other → one ≡ other
same-answer request one other first second =
    let exactly = one-answer request in
    exactly.only one first ∙ sym (exactly.only other second)

-- ---- what the parts give

-- what is told if there is a design
pub counted-answer : (request : Request) (db : Database) (answer : Answer) → design_fault no_options db (image_for request) ≡ None
    → ((events : List Event) → ExactlyOne (IsRun (fabric_of db (image_for request)) events))
    → ((entries : List Entry) → IsRun (fabric_of db (image_for request)) (run_events request db) entries → IsCounted request db answer)
    → IsAnswerWith request db (design_fault no_options db (image_for request)) answer
counted-answer request db answer none runs counted =
    let run = runs (run_events request db) in
    subst (λ (fault : Option Fault). IsAnswerWith request db fault answer) (sym none) (counted run.it run.is)

-- a design that isn't taken
design-stops : (request : Request) (db : Database) (cause told : Option Fault) (stopped : Stop) → ((one : Fault) → told ≡ Some one → cause ≡ Some one) → StopsFor told stopped
    → StopsAs (IsAnswerWith request db cause) stopped
design-stops request db cause (Some fault) (stop.Refused refusal) same stops =
    subst (λ (cause : Option Fault). IsAnswerWith request db cause (Refused (refusal_text refusal))) (sym (same fault refl)) (sym (ap Refused stops))
design-stops request db cause None stop.Memory same stops = tt
design-stops request db cause (Some fault) stop.Memory same stops = tt
design-stops request db cause (Some fault) stop.Quiet same stops = absurd stops
design-stops request db cause (Some fault) (stop.UsageError refusal) same stops = absurd stops
design-stops request db cause None (stop.Refused refusal) same stops = absurd stops
design-stops request db cause None stop.Quiet same stops = absurd stops
design-stops request db cause None (stop.UsageError refusal) same stops = absurd stops

pub told_stops : (request : Request) (db : Database) (device : DeviceName) (fabric : Fabric) (cause : Option Fault) (fault : FabricFault) (stopped : Stop)
    → IsCause device fabric cause fault → StopsFor (told_fault fault) stopped → StopsAs (IsAnswerWith request db cause) stopped
told_stops request db device fabric cause fault stopped is stops =
    design-stops request db cause (told_fault fault) stopped (λ one told. cause-told device fabric cause fault one is told) stops

-- a text that isn't taken
pub database_stops : (request : Request) (read : Result Database (List ℕ)) (stopped : Stop) → StopsDatabase read stopped → StopsAs (IsAnswerBy request read) stopped
database_stops request read (stop.Refused refusal) stops = subst (λ (read : Result Database (List ℕ)). IsAnswerBy request read (Refused (refusal_text refusal))) (sym stops) refl
database_stops request read stop.Quiet stops = absurd stops
database_stops request read (stop.UsageError refusal) stops = absurd stops
database_stops request read stop.Memory stops = tt

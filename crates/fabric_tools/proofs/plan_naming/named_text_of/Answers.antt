use Rattle.std.proofs.Common.{◌∙◌, subst, sym}
use Rattle.std.proofs.lemmas.Result.{IfErr-weaker, IfOk-weaker}
use Rattle.ice_image.specs.Either.{configuration_of}
use Rattle.chipdb_reader.specs.Kept.{database_in}
use Rattle.pin_file.specs.Packages.{package_of}
use Rattle.tool_run.specs.Stops.{StopsWith}
use Rattle.tool_run.specs.Tasks.{Answer}
use Rattle.fabric_tools.proofs.Planned.{named_taken, stops_named}
use Rattle.fabric_tools.proofs.plan_naming.named_text_of.Goals as goal

pub returns-in-Ok-clause-bytes : goal.returns-in-Ok-clause-bytes
returns-in-Ok-clause-bytes c =
    IfOk-weaker c.named_plan_text.result _ _
    (λ bytes is package_name text pin_text has collects.
    named_taken c.args.all_pins (database_in c.args.db.now) (configuration_of c.args.image.now) (package_of package_name text) pin_text _ c.in-Ok.ensures.taken c.in-Ok.ensures.plan
    ∙ is package_name text pin_text has collects)
    c.named_plan_text.ensures.bytes

pub returns-in-Ok-clause-stops : goal.returns-in-Ok-clause-stops
returns-in-Ok-clause-stops c =
    IfErr-weaker c.named_plan_text.result _ _
    (λ stop stops package_name text pin_text has collects.
    subst (λ (answer : Answer). StopsWith answer stop)
    (sym (named_taken c.args.all_pins (database_in c.args.db.now) (configuration_of c.args.image.now) (package_of package_name text) pin_text _ c.in-Ok.ensures.taken c.in-Ok.ensures.plan))
    (stops package_name text pin_text has collects))
    c.named_plan_text.ensures.stops

pub returns-in-Err-clause-stops : goal.returns-in-Err-clause-stops
returns-in-Err-clause-stops c = λ package_name text pin_text has collects.
    stops_named c.args.all_pins (database_in c.args.db.now) (configuration_of c.args.image.now) (package_of package_name text) pin_text _ _ _ c.in-Err.ensures.refused c.stat_stop.ensures

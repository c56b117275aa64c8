use Rattle.std.proofs.Common.{◌≡◌, List, ap, subst}
use Rattle.std.specs.Prelude.{None}
use Rattle.ice_image.specs.Configuration.{Configuration}
use Rattle.chipdb_reader.specs.Kept.{database_in}
use Rattle.fabric_model.specs.Fabric.{fabric_of, no_options}
use Rattle.fabric_model.specs.Faults.{design_fault}
use Rattle.fabric_model.specs.Steps.{Event, IsRun}
use Rattle.fabric_model.specs.Unique.{ExactlyOne}
use Rattle.fabric.specs.Design.{IsDesignOf}
use Rattle.fabric.specs.Faults.{IsCause}
use Rattle.tool_run.specs.Tasks.{Done}
use Rattle.selfrun_tool.proofs.Answer.{counted-answer, told_stops}
use Rattle.selfrun_tool.proofs.running.told_by.Goals as goal

pub design_text-requires : goal.design_text-requires
design_text-requires c = record {
  design = subst (λ (image : Configuration). IsDesignOf (database_in c.args.db.now) image c.in-Ok.design) c.requires.image c.in-Ok.ensures.design;
  options = c.in-Ok.ensures.options;
  image = c.requires.image;
  bytes = c.requires.bytes;
}

pub returns-in_ok-design_text-in-Ok-clause-bytes : goal.returns-in_ok-design_text-in-Ok-clause-bytes
returns-in_ok-design_text-in-Ok-clause-bytes c =
    let request = c.args.request in
    let db = database_in c.args.db.now in
    let taken = subst (λ (image : Configuration). design_fault no_options db image ≡ None) c.requires.image c.in-Ok.ensures.taken in
    let runs = subst (λ (image : Configuration). (events : List Event) → ExactlyOne (IsRun (fabric_of db image) events)) c.requires.image c.in-Ok.ensures.one_run in
    counted-answer request db _ taken runs (λ entries run. record {
      entries = entries;
      run = run;
      answer_is = ap Done (c.in_ok-design_text-in-Ok.ensures entries run);
    })

pub returns-in-Err-clause-stops : goal.returns-in-Err-clause-stops
returns-in-Err-clause-stops c =
    let request = c.args.request in
    let db = database_in c.args.db.now in
    let fault = c.in-Err.fault in
    let is = subst (λ (image : Configuration). IsCause image.layout.device (fabric_of db image) (design_fault no_options db image) fault) c.requires.image c.in-Err.ensures.refused in
    told_stops request db _ _ _ fault c.design_stop.result is c.design_stop.ensures

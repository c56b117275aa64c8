use Rattle.std.proofs.Common.{◌≡◌, ◌∙◌, ap, ap₂}
use Rattle.std.specs.Prelude.{Option, codes}
use Rattle.std.specs.Option.{option_map}
use Rattle.clap.specs.Words.{Text, first_of, found_of, rows_of}
use Rattle.tool_run.specs.Needs.{text_of}
use Rattle.tool_inputs.specs.Commands.{has_flag}
use Rattle.design_answers.specs.PinRequests.{Named, named_by, pins_in, pins_of_request}
use Rattle.fabric_tools.specs.Plan.{plan_task_of}
use Rattle.fabric_tools.proofs.plan_request.request_in.Goals as goal

pub returns : goal.returns
returns c =
    let rows = rows_of (found_of c.args.matches.now) in
    let all = has_flag (codes "all-pins") rows in
    let pins : option_map pins_of_request c.pins_wanted-pins.result ≡ pins_in rows = c.pins_wanted-pins.ensures ∙ ap₂ named_by c.value-file.ensures c.value-package_name.ensures in
    c.wanted.ensures
    ∙ ap₂ (λ all (p : Option (Option Named)). plan_task_of all p (text_of c.value-layout.result) (text_of c.value-db.result) (text_of c.value-image.result)) c.has_flag-all_pins.ensures pins
    ∙ ap (λ (l : Option Text). plan_task_of all (pins_in rows) l (text_of c.value-db.result) (text_of c.value-image.result)) c.value-layout.ensures
    ∙ ap₂ (plan_task_of all (pins_in rows) (first_of (codes "layout") rows)) c.value-db.ensures c.value-image.ensures

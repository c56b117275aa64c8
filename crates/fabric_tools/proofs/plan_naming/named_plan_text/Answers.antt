use Rattle.std.proofs.Common.{◌≡◌, subst}
use Rattle.std.proofs.lemmas.Result.{IfErr-weaker, IfOk-weaker}
use Rattle.pin_file.specs.Feeding.{kept_in}
use Rattle.plan_marks.specs.Plans.{plan_in}
use Rattle.tool_run.specs.Stops.{StopsWith}
use Rattle.tool_run.specs.Tasks.{Done}
use Rattle.fabric_tools.specs.Plan.{named_plan}
use Rattle.fabric_tools.proofs.plan_naming.named_plan_text.Goals as goal

pub returns-clause-bytes : goal.returns-clause-bytes
returns-clause-bytes c =
    IfOk-weaker c.text_by_pins.result _ _
    (λ bytes is package_name text pin_text has collects.
    let plan = plan_in c.args.plan.now in
    subst (λ chosen. named_plan plan chosen pin_text ≡ Done bytes.items) (c.in_ok-pins.ensures package_name text has)
    (subst (λ told. named_plan plan (kept_in c.in_ok-pins.pins) told ≡ Done bytes.items) (c.in_ok-text.ensures pin_text collects) is))
    c.text_by_pins.ensures.bytes

pub returns-clause-stops : goal.returns-clause-stops
returns-clause-stops c =
    IfErr-weaker c.text_by_pins.result _ _
    (λ stop stops package_name text pin_text has collects.
    let plan = plan_in c.args.plan.now in
    subst (λ chosen. StopsWith (named_plan plan chosen pin_text) stop) (c.in_ok-pins.ensures package_name text has)
    (subst (λ told. StopsWith (named_plan plan (kept_in c.in_ok-pins.pins) told) stop) (c.in_ok-text.ensures pin_text collects) stops))
    c.text_by_pins.ensures.stops

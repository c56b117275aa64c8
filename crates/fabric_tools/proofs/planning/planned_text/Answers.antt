use Rattle.std.proofs.Common.{◌∙◌, subst, sym}
use Rattle.std.proofs.lemmas.Result.{IfOk-weaker, IfErr-weaker}
use Rattle.tool_run.specs.Stops.{StopsWith}
use Rattle.tool_run.specs.Tasks.{Answer}
use Rattle.fabric_tools.specs.Plan.{planned}
use Rattle.fabric_tools.proofs.planning.planned_text.Goals as goal

pub returns-in-Ok-clause-bytes : goal.returns-in-Ok-clause-bytes
returns-in-Ok-clause-bytes c =
    IfOk-weaker c.plan_text.result _ _ (λ bytes is layout texts taken. c.in-Ok.ensures.read layout texts (planned c.args.all_pins) taken ∙ is) c.plan_text.ensures.bytes

pub returns-in-Ok-clause-stops : goal.returns-in-Ok-clause-stops
returns-in-Ok-clause-stops c =
    IfErr-weaker c.plan_text.result _ _ (λ stop stops layout texts taken.
    subst (λ (answer : Answer). StopsWith answer stop) (sym (c.in-Ok.ensures.read layout texts (planned c.args.all_pins) taken)) stops) c.plan_text.ensures.stops

pub returns-in-Err-clause-stops : goal.returns-in-Err-clause-stops
returns-in-Err-clause-stops c = λ layout texts taken. c.in-Err.ensures.stops layout texts (planned c.args.all_pins) taken

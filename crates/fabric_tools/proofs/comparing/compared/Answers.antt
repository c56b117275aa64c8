use Rattle.std.proofs.Common.{◌∙◌, subst, sym}
use Rattle.std.proofs.lemmas.Result.{IfOk-weaker, IfErr-weaker}
use Rattle.tool_run.specs.Stops.{StopsWith}
use Rattle.tool_run.specs.Tasks.{Answer}
use Rattle.fabric_tools.specs.Diff.{compared}
use Rattle.fabric_tools.proofs.comparing.compared.Goals as goal

pub returns-in-Ok-clause-bytes : goal.returns-in-Ok-clause-bytes
returns-in-Ok-clause-bytes c =
    IfOk-weaker c.text_of.result _ _ (λ bytes is layout texts taken. c.in-Ok.ensures.read layout texts (compared c.args.quiet) taken ∙ is) c.text_of.ensures.bytes

pub returns-in-Ok-clause-stops : goal.returns-in-Ok-clause-stops
returns-in-Ok-clause-stops c =
    IfErr-weaker c.text_of.result _ _ (λ stop stops layout texts taken.
    subst (λ (answer : Answer). StopsWith answer stop) (sym (c.in-Ok.ensures.read layout texts (compared c.args.quiet) taken)) stops) c.text_of.ensures.stops

pub returns-in-Err-clause-stops : goal.returns-in-Err-clause-stops
returns-in-Err-clause-stops c = λ layout texts taken. c.in-Err.ensures.stops layout texts (compared c.args.quiet) taken

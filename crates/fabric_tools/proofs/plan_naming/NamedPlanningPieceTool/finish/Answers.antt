use Rattle.std.proofs.lemmas.Result.{IfErr-weaker, IfOk-weaker}
use Rattle.fabric_tools.proofs.plan_naming.NamedPlanningPieceTool.finish.Goals as goal

pub returns-clause-bytes : goal.returns-clause-bytes
returns-clause-bytes c =
    IfOk-weaker c.named_after.result _ _ (λ bytes is layout texts taken. is c.args.self.now.package_name.now layout texts taken) c.named_after.ensures.bytes

pub returns-clause-stops : goal.returns-clause-stops
returns-clause-stops c =
    IfErr-weaker c.named_after.result _ _ (λ stop stops layout texts taken. stops c.args.self.now.package_name.now layout texts taken) c.named_after.ensures.stops

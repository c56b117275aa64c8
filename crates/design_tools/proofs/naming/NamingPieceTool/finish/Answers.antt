use Rattle.std.proofs.Common.{◌≡◌, subst}
use Rattle.std.proofs.lemmas.Result.{IfErr-weaker, IfOk-weaker}
use Rattle.tool_run.specs.Stops.{StopsWith}
use Rattle.tool_run.specs.Tasks.{Both}
use Rattle.design_tools.specs.Vlog.{named_answer}
use Rattle.design_tools.proofs.naming.NamingPieceTool.finish.Goals as goal

pub returns-clause-bytes : goal.returns-clause-bytes
returns-clause-bytes c =
    IfOk-weaker c.named_after.result _ _
    (λ made is layout texts taken.
    let tool = c.args.self.now in
    subst (λ name. named_answer tool.options layout name tool.package_name.now tool.has_list texts ≡ Both made.target.items made.beside.items) c.as_bytes.ensures.value
    (is tool.package_name.now layout texts taken))
    c.named_after.ensures.bytes

pub returns-clause-stops : goal.returns-clause-stops
returns-clause-stops c =
    IfErr-weaker c.named_after.result _ _
    (λ stop stops layout texts taken.
    let tool = c.args.self.now in
    subst (λ name. StopsWith (named_answer tool.options layout name tool.package_name.now tool.has_list texts) stop) c.as_bytes.ensures.value
    (stops tool.package_name.now layout texts taken))
    c.named_after.ensures.stops

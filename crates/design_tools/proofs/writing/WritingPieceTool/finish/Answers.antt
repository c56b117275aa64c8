use Rattle.std.proofs.Common.{◌≡◌, subst}
use Rattle.std.proofs.lemmas.Result.{IfErr-weaker, IfOk-weaker}
use Rattle.tool_run.specs.Stops.{StopsWith}
use Rattle.tool_run.specs.Tasks.{Both}
use Rattle.design_tools.specs.Vlog.{vlog_answer}
use Rattle.design_tools.proofs.writing.WritingPieceTool.finish.Goals as goal

pub returns-clause-bytes : goal.returns-clause-bytes
returns-clause-bytes c =
    IfOk-weaker c.written_after.result _ _
    (λ made is layout texts taken.
    subst (λ name. vlog_answer c.args.self.now.options layout name c.args.self.now.has_list texts ≡ Both made.target.items made.beside.items) c.as_bytes.ensures.value (is layout texts taken))
    c.written_after.ensures.bytes

pub returns-clause-stops : goal.returns-clause-stops
returns-clause-stops c =
    IfErr-weaker c.written_after.result _ _
    (λ stop stops layout texts taken.
    subst (λ name. StopsWith (vlog_answer c.args.self.now.options layout name c.args.self.now.has_list texts) stop) c.as_bytes.ensures.value (stops layout texts taken))
    c.written_after.ensures.stops

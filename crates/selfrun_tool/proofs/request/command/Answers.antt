use Rattle.std.proofs.lemmas.Result.{IfOk-weaker}
use Rattle.selfrun_tool.proofs.request.command.Goals as goal

pub returns : goal.returns
returns c = IfOk-weaker c.with-3.result _ _ (λ command made. made _ _ (c.in_ok-command-2.ensures _ _ (c.in_ok-command.ensures _ _ c.new-command.ensures.app c.positional.ensures.rule) c.positional-2.ensures.rule) c.positional-3.ensures.rule) c.with-3.ensures

use Rattle.std.proofs.lemmas.Result.{IfOk-weaker}
use Rattle.fabric_tools.proofs.comparing.command.Goals as goal

pub returns : goal.returns
returns c = IfOk-weaker c.with-5.result _ _ (λ command made. made _ _ (c.in_ok-command-4.ensures _ _ (c.in_ok-command-3.ensures _ _ (c.in_ok-command-2.ensures _ _ (c.in_ok-command.ensures _ _ c.new-command.ensures.app c.long_option.ensures.rule) c.flag.ensures.rule) c.required.ensures.rule) c.required-2.ensures.rule) c.required-3.ensures.rule) c.with-5.ensures

use Rattle.std.proofs.lemmas.Result.{IfOk-weaker}
use Rattle.fabric_tools.proofs.plan_request.command.Goals as goal

pub returns : goal.returns
returns c = IfOk-weaker c.with-6.result _ _ (λ command made. made _ _ (c.in_ok-command-5.ensures _ _ (c.in_ok-command-4.ensures _ _ (c.in_ok-command-3.ensures _ _ (c.in_ok-command-2.ensures _ _ (c.in_ok-command.ensures _ _ c.new-command.ensures.app c.long_flag.ensures.rule) c.long_option.ensures.rule) c.short_option.ensures.rule) c.short_option-2.ensures.rule) c.required.ensures.rule) c.positional.ensures.rule) c.with-6.ensures

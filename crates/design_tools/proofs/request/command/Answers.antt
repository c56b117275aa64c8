use Rattle.std.proofs.lemmas.Result.{IfOk-weaker}
use Rattle.design_tools.proofs.request.command.Goals as goal

pub returns : goal.returns
returns c = IfOk-weaker c.with-10.result _ _ (λ command made. made _ _ (c.in_ok-command-9.ensures _ _ (c.in_ok-command-8.ensures _ _ (c.in_ok-command-7.ensures _ _ (c.in_ok-command-6.ensures _ _ (c.in_ok-command-5.ensures _ _ (c.in_ok-command-4.ensures _ _ (c.in_ok-command-3.ensures _ _ (c.in_ok-command-2.ensures _ _ (c.in_ok-command.ensures _ _ c.new-command.ensures.app c.short_option.ensures.rule) c.short_option-2.ensures.rule) c.short_option-3.ensures.rule) c.long_option.ensures.rule) c.long_flag.ensures.rule) c.long_flag-2.ensures.rule) c.long_flag-3.ensures.rule) c.long_option-2.ensures.rule) c.positional.ensures.rule) c.positional-2.ensures.rule) c.with-10.ensures

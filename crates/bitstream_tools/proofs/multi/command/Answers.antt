use Rattle.std.proofs.lemmas.Result.{IfOk-weaker}
use Rattle.bitstream_tools.proofs.multi.command.Goals as goal

pub returns : goal.returns
returns c = IfOk-weaker c.with-7.result _ _ (λ command made. made _ _
    (c.in_ok-command-6.ensures _ _ (c.in_ok-command-5.ensures _ _ (c.in_ok-command-4.ensures _ _ (c.in_ok-command-3.ensures _ _ (c.in_ok-command-2.ensures _ _ (c.in_ok-command.ensures _ _ c.new-command.ensures.app c.long_flag.ensures.rule)
    c.flag.ensures.rule) c.short_option.ensures.rule) c.short_option-2.ensures.rule) c.short_option-3.ensures.rule) c.short_option-4.ensures.rule) c.several.ensures.rule) c.with-7.ensures

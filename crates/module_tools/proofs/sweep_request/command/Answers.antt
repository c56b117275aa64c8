use Rattle.std.proofs.lemmas.Result.{IfOk-weaker}
use Rattle.module_tools.proofs.sweep_request.command.Goals as goal

pub returns : goal.returns
returns c =
    let first = c.in_ok-command.ensures _ _ c.new-command.ensures.app c.long_flag.ensures.rule in
    let second = c.in_ok-command-2.ensures _ _ first c.long_flag-2.ensures.rule in
    let third = c.in_ok-command-3.ensures _ _ second c.long_flag-3.ensures.rule in
    let fourth = c.in_ok-command-4.ensures _ _ third c.required.ensures.rule in
    IfOk-weaker c.with-5.result _ _ (λ command made. made _ _ fourth c.several.ensures.rule) c.with-5.ensures

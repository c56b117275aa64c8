use Rattle.std.proofs.lemmas.Result.{IfOk-weaker}
use Rattle.module_tools.proofs.request.command.Goals as goal

pub returns : goal.returns
returns c =
    let first = c.in_ok-command.ensures _ _ c.new-command.ensures.app c.long_flag.ensures.rule in
    let second = c.in_ok-command-2.ensures _ _ first c.flag.ensures.rule in
    let third = c.in_ok-command-3.ensures _ _ second c.long_flag-2.ensures.rule in
    let fourth = c.in_ok-command-4.ensures _ _ third c.long_flag-3.ensures.rule in
    let fifth = c.in_ok-command-5.ensures _ _ fourth c.long_flag-4.ensures.rule in
    let sixth = c.in_ok-command-6.ensures _ _ fifth c.long_flag-5.ensures.rule in
    let seventh = c.in_ok-command-7.ensures _ _ sixth c.long_option.ensures.rule in
    let eighth = c.in_ok-command-8.ensures _ _ seventh c.required.ensures.rule in
    IfOk-weaker c.with-9.result _ _ (λ command made. made _ _ eighth c.positional.ensures.rule) c.with-9.ensures

use Rattle.std.proofs.Common.{sym, subst}
use Rattle.std.proofs.lemmas.Result.{IfOk-weaker}
use Rattle.vlog_forms.specs.Items.{IsSpelling}
use Rattle.vlog_forms.proofs.PrintedTokens.{printed-spells}
use Rattle.vlog_print.proofs.lines.print.Goals as goal

pub returns-clause-spelling : goal.returns-clause-spelling
returns-clause-spelling c =
    IfOk-weaker c.print_module.result _ _ (λ text is. subst (λ all. IsSpelling all c.args.module.now) (sym is.0) (printed-spells c.args.module.now is.1)) c.print_module.ensures

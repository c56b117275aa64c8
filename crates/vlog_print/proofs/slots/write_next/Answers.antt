use Rattle.std.proofs.Common.{◌+◌, ap, sym, ◌∙◌}
use Rattle.vlog_print.specs.Rest.{with_rest}
use Rattle.vlog_print.proofs.Steps.{rest-took, rest-missing}
use Rattle.vlog_print.proofs.slots.write_next.Goals as goal

pub returns-in_ok-write_value-clause-text : goal.returns-in_ok-write_value-clause-text
returns-in_ok-write_value-clause-text c = λ one more takes.
    rest-took c.args.out.now.items one more c.args.values.now c.args.next _ c.if-next-values.true takes
    ∙ ap (λ text. with_rest text more c.args.values.now (c.args.next + 1)) (sym c.in_ok-write_value.ensures)

pub returns-else-next-values-clause-text : goal.returns-else-next-values-clause-text
returns-else-next-values-clause-text c = λ one more takes.
    rest-missing c.args.out.now.items one more c.args.values.now c.args.next c.if-next-values.false takes

use Rattle.vlog_form_parser.proofs.ValuesAt.{after-some, after-none}
use Rattle.vlog_form_parser.proofs.values.value_at.Goals as goal

pub returns-then-place-values : goal.returns-then-place-values
returns-then-place-values c = after-some c.args.values.now c.args.place _ c.if-place-values.true

pub returns-else-place-values : goal.returns-else-place-values
returns-else-place-values c = after-none c.args.values.now c.args.place c.if-place-values.false

use Rattle.std.proofs.Common.{length, ap}
use Rattle.vlog_tokens.specs.Tokens.{spots_at}
use Rattle.vlog_forms.specs.Reading.{read_tokens}
use Rattle.vlog_form_parser.proofs.Steps.{tokens_at-some, tokens_at-none, tokens-along}
use Rattle.vlog_form_parser.proofs.slots.read_again.Goals as goal

pub returns-then-place-values-clause-reads : goal.returns-then-place-values-clause-reads
returns-then-place-values-clause-reads c =
    tokens-along _ _ c.args.bytes.now c.read_value.result
    (ap (λ tokens. read_tokens (length c.args.bytes.now) tokens (spots_at c.args.bytes.now c.args.from)) (tokens_at-some c.args.values.now c.args.place _ c.if-place-values.true))
    c.read_value.ensures.reads

pub returns-else-place-values-clause-reads : goal.returns-else-place-values-clause-reads
returns-else-place-values-clause-reads c =
    tokens-along _ _ c.args.bytes.now c.expect_token.result
    (ap (λ tokens. read_tokens (length c.args.bytes.now) tokens (spots_at c.args.bytes.now c.args.from)) (tokens_at-none c.args.values.now c.args.place c.if-place-values.false))
    c.expect_token.ensures.reads

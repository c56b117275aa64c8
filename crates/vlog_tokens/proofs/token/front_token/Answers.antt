use Rattle.vlog_tokens.proofs.Lengths.{digits_within, sign_within}
use Rattle.vlog_tokens.proofs.token.front_token.Goals as goal

pub returns-then-is_digit-clause-within : goal.returns-then-is_digit-clause-within
returns-then-is_digit-clause-within c = rw c.digits_token.ensures.length (digits_within c.args.bytes.now c.requires)

pub returns-else-is_digit-clause-within : goal.returns-else-is_digit-clause-within
returns-else-is_digit-clause-within c = rw c.sign_token.ensures.length (sign_within c.args.bytes.now c.requires)

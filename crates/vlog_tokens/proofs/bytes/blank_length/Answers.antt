use Rattle.std.proofs.Common.{sym}
use Rattle.shared_lemmas.proofs.Searches.{position_or_len-none}
use Rattle.vlog_tokens.proofs.bytes.blank_length.Goals as goal

pub returns-in-None-clause-place : goal.returns-in-None-clause-place
returns-in-None-clause-place c = sym (position_or_len-none _ c.args.bytes.now (sym c.in-None.ensures))

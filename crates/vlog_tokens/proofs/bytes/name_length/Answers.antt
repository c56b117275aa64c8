use Rattle.std.proofs.Common.{sym}
use Rattle.shared_lemmas.proofs.Searches.{position_or_len-none}
use Rattle.vlog_tokens.proofs.bytes.name_length.Goals as goal

pub returns-in-None : goal.returns-in-None
returns-in-None c = sym (position_or_len-none _ c.args.bytes.now (sym c.in-None.ensures))

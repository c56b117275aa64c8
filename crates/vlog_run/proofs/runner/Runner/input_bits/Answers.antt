use Rattle.std.proofs.Common.{sym, ◌∙◌}
use Rattle.vlog_run.proofs.OneLane.{own-bits}
use Rattle.vlog_run.proofs.runner.Runner.input_bits.Goals as goal

pub returns : goal.returns
returns c m entry shows = sym (own-bits c.input_bits.result.now) ∙ c.input_bits.ensures 0 m entry shows

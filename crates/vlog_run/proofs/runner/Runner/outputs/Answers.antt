use Rattle.std.proofs.Common.{sym, ◌∙◌}
use Rattle.vlog_run.proofs.OneLane.{own-bits}
use Rattle.vlog_run.proofs.runner.Runner.outputs.Goals as goal

pub returns : goal.returns
returns c m entry shows = sym (own-bits c.outputs.result.now) ∙ c.outputs.ensures 0 m entry shows

use Rattle.std.proofs.Common.{sym, ◌∙◌}
use Rattle.vlog_run.proofs.OneLane.{own-bits}
use Rattle.vlog_run.proofs.runner.Runner.copy_wires.Goals as goal

pub returns : goal.returns
returns c m entry shows as_many = sym (own-bits c.copy_wires.new.wires) ∙ c.copy_wires.ensures 0 m entry shows as_many

use Rattle.std.proofs.Common.{sym, ◌∙◌}
use Rattle.vlog_run.proofs.OneLane.{own-option}
use Rattle.vlog_run.proofs.runner.Runner.register.Goals as goal

pub returns-clause-is : goal.returns-clause-is
returns-clause-is c m entry shows = sym (own-option c.register.result) ∙ c.register.ensures.is 0 m entry shows

pub returns-clause-declared : goal.returns-clause-declared
returns-clause-declared c m entry shows = c.register.ensures.declared 0 m entry shows

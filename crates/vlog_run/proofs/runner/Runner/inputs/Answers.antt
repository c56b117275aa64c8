use Rattle.vlog_run.proofs.runner.Runner.inputs.Goals as goal

pub returns-clause-shown : goal.returns-clause-shown
returns-clause-shown c m entry shows = c.inputs.ensures.shown 0 m entry shows

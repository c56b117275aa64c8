use Rattle.vlog_run.proofs.runner.Runner.event.Goals as goal

pub returns-clause-shows : goal.returns-clause-shows
returns-clause-shows c m entry shows = c.event.ensures.shows 0 m entry shows

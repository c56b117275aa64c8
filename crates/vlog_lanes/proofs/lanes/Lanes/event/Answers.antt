use Rattle.vlog_lanes.proofs.lanes.Lanes.event.Goals as goal

pub returns-clause-shows : goal.returns-clause-shows
returns-clause-shows c lane m entry within shows = c.event.ensures.shows lane m entry shows

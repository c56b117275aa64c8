use Rattle.long_events.proofs.Counts.{tallies-none}
use Rattle.long_events.proofs.counting.Tally.new.Goals as goal

pub returns : goal.returns
returns c = tallies-none

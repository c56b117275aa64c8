use Rattle.floor_plan.proofs.Counting.{fit-read, links-told}
use Rattle.floor_plan.proofs.law.links_are_counted.Goals as goal

pub returns-clause-links : goal.returns-clause-links
returns-clause-links c = links-told

pub returns-clause-fit : goal.returns-clause-fit
returns-clause-fit c = fit-read

use Rattle.plan_svg.proofs.Said.{label-says}
use Rattle.plan_svg.proofs.law.names_are_said.Goals as goal

pub returns : goal.returns
returns c = label-says

use Rattle.plan_svg.proofs.Placed.{places}
use Rattle.plan_svg.proofs.law.marks_are_placed.Goals as goal

pub returns : goal.returns
returns c = places

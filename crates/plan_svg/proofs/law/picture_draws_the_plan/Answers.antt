use Rattle.plan_svg.proofs.Pictures.{draws}
use Rattle.plan_svg.proofs.law.picture_draws_the_plan.Goals as goal

pub returns : goal.returns
returns c = draws

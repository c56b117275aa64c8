use Rattle.plan_svg.specs.Tiles.{lower_mark}
use Rattle.plan_svg.proofs.tiles.push_lower.Goals as goal

pub returns : goal.returns
unfolding lower_mark
returns c = rw (c.from.ensures, c.bits_of.ensures) at c.push.ensures

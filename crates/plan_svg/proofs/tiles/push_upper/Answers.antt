use Rattle.plan_svg.specs.Tiles.{upper_mark}
use Rattle.plan_svg.proofs.tiles.push_upper.Goals as goal

pub returns : goal.returns
unfolding upper_mark
returns c = rw (c.from.ensures, c.bits_of.ensures) at c.push.ensures

use Rattle.plan_svg.specs.Svg.{sizes}
use Rattle.plan_svg.proofs.svg.push_sizes.Goals as goal

pub returns : goal.returns
unfolding sizes
returns c = rw (c.width-width.ensures, c.height-height.ensures, c.as_bytes.ensures.value) at c.push.ensures

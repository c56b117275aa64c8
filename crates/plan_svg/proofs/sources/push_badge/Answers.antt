use Rattle.plan_svg.specs.Sources.{badge_text}
use Rattle.plan_svg.proofs.sources.push_badge.Goals as goal

pub returns : goal.returns
unfolding badge_text
returns c = rw (c.global_class.ensures, c.global_shape.ensures, c.from.ensures) at c.push.ensures

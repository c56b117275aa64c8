use Rattle.plan_svg.specs.Sources.{global_badge}
use Rattle.plan_svg.proofs.sources.push_global_badge.Goals as goal

pub returns : goal.returns
unfolding global_badge
returns c = rw (c.global_class.ensures, c.global_shape.ensures, c.saturating_sub.ensures, c.saturating_sub-2.ensures, c.from.ensures) at c.push.ensures

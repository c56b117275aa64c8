use Rattle.plan_svg.specs.Sources.{pll_row}
use Rattle.plan_svg.proofs.sources.push_pll_row.Goals as goal

pub returns : goal.returns
unfolding pll_row
returns c = rw (c.saturating_sub.ensures, c.from.ensures, c.from-2.ensures, c.outputs_words.ensures) at c.push.ensures

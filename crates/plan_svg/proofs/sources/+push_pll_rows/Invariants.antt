use Rattle.std.proofs.Common.{length}
use Rattle.plan_svg.proofs.sources.+push_pll_rows.Given as goal

abbrev pub decreases-push_pll_rows : goal.decreases-push_pll_rows
decreases-push_pll_rows l = length l.plls.now

use Rattle.std.proofs.Common.{length}
use Rattle.plan_svg.proofs.legend.+push_with_numbers.Given as goal

abbrev pub decreases-push_with_numbers : goal.decreases-push_with_numbers
decreases-push_with_numbers l = length l.texts.now

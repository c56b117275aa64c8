use Rattle.std.proofs.Common.{length}
use Rattle.image_explain.proofs.known.+add_ones.Given as goal

abbrev pub decreases-add_ones : goal.decreases-add_ones
decreases-add_ones l = length l.bits.now

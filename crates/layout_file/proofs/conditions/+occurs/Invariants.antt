use Rattle.std.proofs.Common.{length}
use Rattle.layout_file.proofs.conditions.+occurs.Given as goal

abbrev pub decreases-occurs : goal.decreases-occurs
decreases-occurs l = length l.entries.now

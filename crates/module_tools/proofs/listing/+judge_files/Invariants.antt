use Rattle.std.proofs.Common.{length}
use Rattle.module_tools.proofs.listing.+judge_files.Given as goal

abbrev pub decreases-judge_files : goal.decreases-judge_files
decreases-judge_files l = length l.names.now

use Rattle.std.proofs.Common.{length}
use Rattle.module_tools.proofs.sweeping.+read_files.Given as goal

abbrev pub decreases-read_files : goal.decreases-read_files
decreases-read_files l = length l.names.now

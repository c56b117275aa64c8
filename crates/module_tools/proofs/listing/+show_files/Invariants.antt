use Rattle.std.proofs.Common.{length}
use Rattle.module_tools.proofs.listing.+show_files.Given as goal

abbrev pub decreases-show_files : goal.decreases-show_files
decreases-show_files l = length l.names.now

use Rattle.std.proofs.Common.{length}
use Rattle.vlog_parser.proofs.name_faults.+fault_from.Given as goal

abbrev pub decreases-fault_from : goal.decreases-fault_from
decreases-fault_from l = length l.more.now

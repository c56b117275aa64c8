use Rattle.std.proofs.Common.{length}
use Rattle.vlog_parser.proofs.names.Names.+enter_from.Given as goal

abbrev pub decreases-enter_from : goal.decreases-enter_from
decreases-enter_from l = length l.more.now

use Rattle.std.proofs.Common.{length}
use Rattle.vlog_form_parser.proofs.slots.+read_slots.Given as goal

abbrev pub decreases-read_slots : goal.decreases-read_slots
decreases-read_slots l = length l.slots.now

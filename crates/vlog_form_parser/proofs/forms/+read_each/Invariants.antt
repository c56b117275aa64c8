use Rattle.std.proofs.Common.{length}
use Rattle.vlog_form_parser.proofs.forms.+read_each.Given as goal

abbrev pub decreases-read_each : goal.decreases-read_each
decreases-read_each l = length l.forms.now

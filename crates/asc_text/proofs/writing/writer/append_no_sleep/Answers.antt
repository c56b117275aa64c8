use Rattle.std.proofs.Common.{ap}
use Rattle.asc_text.specs.Canonical.{no_sleep_lines}
use Rattle.asc_text.proofs.Pieces.{nothing-written}
use Rattle.asc_text.proofs.writing.writer.append_no_sleep.Goals as goal

pub returns-else-no_sleep : goal.returns-else-no_sleep
returns-else-no_sleep c = nothing-written c.args.text.now.items (no_sleep_lines c.args.no_sleep) (ap no_sleep_lines c.if-no_sleep.false)

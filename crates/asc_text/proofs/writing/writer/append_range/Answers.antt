use Rattle.std.proofs.Common.{ap}
use Rattle.asc_text.specs.Canonical.{range_lines}
use Rattle.asc_text.proofs.Pieces.{nothing-written}
use Rattle.asc_text.proofs.writing.writer.append_range.Goals as goal

pub returns-in-Low : goal.returns-in-Low
returns-in-Low c = nothing-written c.args.text.now.items (range_lines c.args.range) (ap range_lines c.in-Low.is)

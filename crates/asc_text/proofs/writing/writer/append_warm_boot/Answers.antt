use Rattle.std.proofs.Common.{ap}
use Rattle.asc_text.specs.Canonical.{warm_boot_lines}
use Rattle.asc_text.proofs.Pieces.{nothing-written}
use Rattle.asc_text.proofs.writing.writer.append_warm_boot.Goals as goal

pub returns-then-warm_boot : goal.returns-then-warm_boot
returns-then-warm_boot c = nothing-written c.args.text.now.items (warm_boot_lines c.args.warm_boot) (ap warm_boot_lines c.if-warm_boot.true)

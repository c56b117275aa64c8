use Rattle.std.proofs.Common.{sym, ap, ◌∙◌}
use Rattle.fabric_model.specs.ClockPasses.{pass_in}
use Rattle.fabric_model.proofs.ClockLuts.{pass-reads}
use Rattle.fabric_wiring.proofs.ends.end_through.Goals as goal

pub class_of-requires : goal.class_of-requires
class_of-requires g c = c.requires.1 c.in-Follows.net (pass-reads g.connected c.args.table.now c.in-Follows.turned c.in-Follows.net (sym c.pass_of.ensures ∙ ap pass_in c.in-Follows.is))

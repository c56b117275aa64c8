use Rattle.fabric_model.proofs.Facts.{has-source}
use Rattle.fabric_wiring.proofs.Signals.{four-flags}
use Rattle.fabric_wiring.proofs.ends.open_inputs.Goals as goal

pub can_be_1-requires : goal.can_be_1-requires
can_be_1-requires c = λ net listed. c.requires net (has-source c.args.ins.now 0 net listed)

pub can_be_1-requires-2 : goal.can_be_1-requires-2
can_be_1-requires-2 c = λ net listed. c.requires net (has-source c.args.ins.now 1 net listed)

pub can_be_1-requires-3 : goal.can_be_1-requires-3
can_be_1-requires-3 c = λ net listed. c.requires net (has-source c.args.ins.now 2 net listed)

pub can_be_1-requires-4 : goal.can_be_1-requires-4
can_be_1-requires-4 c = λ net listed. c.requires net (has-source c.args.ins.now 3 net listed)

pub returns : goal.returns
returns c = four-flags c.args.ins.now _ c.can_be_1.result c.can_be_1-2.result c.can_be_1-3.result c.can_be_1-4.result c.can_be_1.ensures c.can_be_1-2.ensures c.can_be_1-3.ensures c.can_be_1-4.ensures

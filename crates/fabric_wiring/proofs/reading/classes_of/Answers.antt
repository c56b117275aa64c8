use Rattle.fabric_model.proofs.Facts.{has-input}
use Rattle.fabric_wiring.proofs.reading.classes_of.Goals as goal

pub class_of-requires : goal.class_of-requires
class_of-requires c = c.requires c.in-Some.net (has-input c.args.nets.now c.loop-net.net-index c.in-Some.net c.in-Some.is)

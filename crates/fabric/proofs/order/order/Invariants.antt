use Rattle.fabric_model.specs.Wiring.{wiring_of}
use Rattle.fabric.proofs.order.order.Given as goal

abbrev pub ghost-wires : goal.ghost-wires
ghost-wires g a = g.fabric

abbrev pub ghost-order_of : goal.ghost-order_of
ghost-order_of g a = wiring_of g.fabric

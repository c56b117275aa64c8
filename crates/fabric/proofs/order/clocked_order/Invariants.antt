use Rattle.fabric_model.specs.Wiring.{clocked_wiring}
use Rattle.fabric.proofs.order.clocked_order.Given as goal

abbrev pub ghost-has_register_clocks : goal.ghost-has_register_clocks
ghost-has_register_clocks g a = g.fabric

abbrev pub ghost-clocked_wires : goal.ghost-clocked_wires
ghost-clocked_wires g a = g.fabric

abbrev pub ghost-order_of : goal.ghost-order_of
ghost-order_of g a = clocked_wiring g.fabric

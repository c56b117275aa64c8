use Rattle.graph_order.specs.Rows.{wiring_of}
use Rattle.fabric.proofs.Refused.{on-ok}
use Rattle.fabric.proofs.Evidence.{nets-few}
use Rattle.fabric.proofs.order.order.Goals as goal

pub returns-clause-few : goal.returns-clause-few
returns-clause-few g c =
    on-ok c.order_of.result _
    (nets-few g.fabric (wiring_of c.in_ok-wires.wires.driven.items c.in_ok-wires.wires.reads.items) _ c.in_ok-wires.ensures.wires.alike c.in_ok-wires.ensures.few)

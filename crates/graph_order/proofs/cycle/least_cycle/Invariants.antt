use Rattle.std.proofs.Common.{◌≡◌, ℕ, ◌<◌, false}
use Rattle.graph_order.specs.Wiring.{is_on_cycle}
use Rattle.graph_order.specs.Rows.{wiring_of}
use Rattle.graph_order.proofs.cycle.least_cycle.Given as goal

abbrev pub invariant-loop-node : goal.invariant-loop-node
invariant-loop-node l = (node : ℕ) → node < l.node → is_on_cycle (wiring_of l.driven l.reads) node ≡ false

use Rattle.std.proofs.Common.{◌≡◌, ℕ, true, ◌⊎◌}
use Rattle.std.specs.Ordering.{nat_cmp}
use Rattle.std.specs.BTreeSet.{contains}
use Rattle.graph_order.specs.Wiring.{IsReady}
use Rattle.graph_order.specs.Rows.{is_marked, wiring_of}
use Rattle.graph_order.specs.Ready.{HoldsReady}
use Rattle.graph_order.proofs.Lists.{StandsFrom}
use Rattle.graph_order.proofs.ready.insert_ready.Given as goal

abbrev pub invariant-loop-node : goal.invariant-loop-node
invariant-loop-node l = record {
  ready : HoldsReady (wiring_of l.driven l.reads) (is_marked l.written) l.ready;
  all : (node : ℕ) → IsReady (wiring_of l.driven l.reads) (is_marked l.written) node → (contains nat_cmp l.ready node ≡ true) ⊎ StandsFrom l.nodes l.node-index node;
}

use Rattle.std.proofs.Common.{◌≡◌, ℕ, ◌<◌, true}
use Rattle.graph_order.specs.Wiring.{has}
use Rattle.graph_order.proofs.order.all_below.Given as goal

abbrev pub invariant-loop-node : goal.invariant-loop-node
invariant-loop-node l = record {
  within : (node : ℕ) → has l.all.items node ≡ true → node < l.node;
  all : (node : ℕ) → node < l.node → has l.all.items node ≡ true;
}

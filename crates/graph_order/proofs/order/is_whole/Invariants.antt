use Rattle.std.proofs.Common.{◌≡◌, ℕ, ◌<◌, true}
use Rattle.graph_order.specs.Rows.{is_marked}
use Rattle.graph_order.proofs.order.is_whole.Given as goal

abbrev pub invariant-loop-node : goal.invariant-loop-node
invariant-loop-node l = (node : ℕ) → node < l.node → is_marked l.driven node ≡ true → is_marked l.written node ≡ true

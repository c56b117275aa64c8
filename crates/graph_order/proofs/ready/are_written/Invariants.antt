use Rattle.std.proofs.Common.{◌≡◌, ℕ, ◌<◌, true, get_or}
use Rattle.graph_order.specs.Rows.{is_marked}
use Rattle.graph_order.proofs.ready.are_written.Given as goal

abbrev pub invariant-loop-node : goal.invariant-loop-node
invariant-loop-node l = (place : ℕ) → place < l.node-index → is_marked l.driven (get_or l.nodes place 0) ≡ true → is_marked l.written (get_or l.nodes place 0) ≡ true

use Rattle.std.proofs.Common.{◌≡◌, ℕ, ◌<◌, false}
use Rattle.graph_order.specs.Wiring.{has}
use Rattle.graph_order.specs.Rows.{row_at}
use Rattle.graph_order.specs.Search.{node_at}
use Rattle.graph_order.proofs.cycle.place_reading.Given as goal

abbrev pub invariant-loop-place : goal.invariant-loop-place
invariant-loop-place l = (place : ℕ) → place < l.place → has (row_at l.reads (node_at l.trail place)) l.node ≡ false

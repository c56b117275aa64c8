use Rattle.std.proofs.Common.{◌≡◌, ℕ, ◌<◌, true, length}
use Rattle.graph_order.specs.Wiring.{has}
use Rattle.graph_order.specs.Rows.{row_at}
use Rattle.fabric_tests.proofs.tests.orders.are_rows.Given as goal

abbrev pub invariant-loop-class : goal.invariant-loop-class
invariant-loop-class l = (class other : ℕ) → class < l.class → has (row_at l.reads class) other ≡ true → other < length l.driven

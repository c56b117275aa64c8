use Rattle.std.proofs.Common.{◌≡◌, ℕ, ◌<◌, length}
use Rattle.graph_order.specs.Rows.{row_at}
use Rattle.fabric_model.specs.Wiring.{clocked_wiring}
use Rattle.fabric_wiring.proofs.clocking.clocked_rows.Given as goal

abbrev pub ghost-clocked_row : goal.ghost-clocked_row
ghost-clocked_row g a = g.fabric

abbrev pub invariant-loop-class : goal.invariant-loop-class
invariant-loop-class g l = record {
  length : length l.rows.items ≡ l.class;
  rows : (class : ℕ) → class < l.class → row_at l.rows.items class ≡ (clocked_wiring g.fabric).reads class;
}

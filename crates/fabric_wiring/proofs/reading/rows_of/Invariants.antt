use Rattle.std.proofs.Common.{◌≡◌, ℕ, ◌<◌, length}
use Rattle.graph_order.specs.Rows.{row_at}
use Rattle.fabric_wiring.specs.DriverLists.{driver_in}
use Rattle.fabric_wiring.specs.Reading.{row_in}
use Rattle.fabric_wiring.proofs.reading.rows_of.Given as goal

abbrev pub invariant-loop-class : goal.invariant-loop-class
invariant-loop-class l = record {
  length : length l.rows.items ≡ l.class;
  rows : (class : ℕ) → class < l.class → row_at l.rows.items class ≡ row_in l.links (driver_in l.drivers class);
}

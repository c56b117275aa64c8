use Rattle.std.proofs.Common.{◌≡◌, ℕ, ◌<◌, length}
use Rattle.std.specs.Prelude.{is_some}
use Rattle.graph_order.specs.Rows.{is_marked}
use Rattle.fabric_wiring.specs.DriverLists.{driver_in}
use Rattle.fabric_wiring.proofs.reading.marks_of.Given as goal

abbrev pub invariant-loop-class : goal.invariant-loop-class
invariant-loop-class l = record {
  length : length l.marks.items ≡ l.class;
  marks : (class : ℕ) → class < l.class → is_marked l.marks.items class ≡ is_some (driver_in l.drivers class);
}

use Rattle.std.proofs.Common.{◌≡◌, ◌+◌, ◌≤◌, drop, length}
use Rattle.vlog_semantics.specs.ModuleSlots.{wire_names}
use Rattle.vlog_waves.proofs.items.count_wires.Given as goal

abbrev pub invariant-loop-item : goal.invariant-loop-item
invariant-loop-item l = record {
  all : l.count + length (wire_names (drop l.item-index l.items)) ≡ length (wire_names l.items);
  few : l.count ≤ l.item-index;
}

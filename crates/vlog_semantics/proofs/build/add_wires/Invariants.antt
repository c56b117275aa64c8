use Rattle.std.proofs.Common.{◌≡◌, ℕ, Bool, List, ◌++◌, flat_map, take}
use Rattle.vlog_semantics.specs.Held.{Holds}
use Rattle.vlog_semantics.specs.Named.{names_of}
use Rattle.vlog_semantics.specs.Plans.{wires_of}
use Rattle.vlog_semantics.specs.ModuleSlots.{wire_start}
use Rattle.vlog_semantics.specs.Slots.{slot_of}
use Rattle.vlog_semantics.proofs.build.add_wires.Given as goal

abbrev pub invariant-loop-item : goal.invariant-loop-item
invariant-loop-item l = record {
  bits : (entries : List (List ℕ × Bool)) → Holds l.initial.bits entries → Holds l.bits (entries ++ flat_map wire_start (take l.item-index l.items));
  wires : (entries : List (List ℕ × Bool)) → Holds l.initial.bits entries
      → l.wires.items ≡ l.initial.wires.items ++ wires_of (slot_of l.words) (names_of entries) (take l.item-index l.items);
}

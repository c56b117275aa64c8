use Rattle.std.proofs.Common.{ℕ, Bool, List, [], ◌++◌, flat_map, length, take}
use Rattle.vlog_semantics.specs.Held.{Holds}
use Rattle.vlog_semantics.specs.Named.{names_of}
use Rattle.vlog_semantics.specs.Numbered.{numbered}
use Rattle.vlog_semantics.specs.Run.{register_start}
use Rattle.vlog_semantics.specs.Slots.{Finds}
use Rattle.vlog_semantics.proofs.build.add_registers.Given as goal

abbrev pub invariant-loop-item : goal.invariant-loop-item
invariant-loop-item l = record {
  bits : (entries : List (List ℕ × Bool)) → Holds l.initial.bits entries → Holds l.bits (entries ++ flat_map register_start (take l.item-index l.items));
  registers : (entries : List (List ℕ × Bool)) → Holds l.initial.bits entries → Finds l.initial.registers []
      → Finds l.registers (numbered (length entries) (names_of (flat_map register_start (take l.item-index l.items))));
}

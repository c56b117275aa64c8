use Rattle.std.proofs.Common.{flat_map, take}
use Rattle.vlog_semantics.specs.ModuleSlots.{wire_names}
use Rattle.wire_names.specs.Names.{declared_by}
use Rattle.wire_names.specs.Naming.{Declares}
use Rattle.wire_names.proofs.naming.Naming.declare_items.Given as goal

abbrev pub invariant-loop-item : goal.invariant-loop-item
invariant-loop-item l = Declares (flat_map declared_by (take l.item-index l.items)) (wire_names (take l.item-index l.items)) l.initial.self l.self

use Rattle.std.proofs.Common.{[], List, flat_map, subst}
use Rattle.vlog_module.specs.declared.item.Item.{Item}
use Rattle.vlog_module.specs.declared.modules.Port.{Port}
use Rattle.vlog_semantics.specs.ModuleSlots.{wire_names}
use Rattle.wire_names.specs.declared.naming.Naming.{Naming}
use Rattle.wire_names.specs.Names.{declared_by, names_of_ports}
use Rattle.wire_names.specs.Naming.{Declares}
use Rattle.wire_names.proofs.Declaring.{names-begun}
use Rattle.wire_names.proofs.naming.Naming.new.Goals as goal

pub returns : goal.returns
returns c =
    let begun : Naming = record { wires = c.new.result; taken = c.new-2.result; names = c.none.result } in
    names-begun c.args.module.now begun c.declare_ports.new.self c.declare_items.new.self c.new.ensures c.new-2.ensures c.none.ensures
    (subst (λ (ports : List Port). Declares (names_of_ports ports) [] begun c.declare_ports.new.self) c.ports.ensures.ports c.in_ok-declare_ports.ensures)
    (subst (λ (items : List Item). Declares (flat_map declared_by items) (wire_names items) c.declare_ports.new.self c.declare_items.new.self) c.items.ensures.items c.in_ok-declare_items.ensures)

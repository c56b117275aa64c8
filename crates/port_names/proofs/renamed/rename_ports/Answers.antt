use Rattle.std.proofs.Common.{sym, subst, ◌∙◌}
use Rattle.std.specs.Vec.{with_items}
use Rattle.vlog_module.specs.WellFormed.{IsModule}
use Rattle.port_names.specs.Listed.{given_by}
use Rattle.port_names.specs.Renamed.{renamed_item, renamed_port}
use Rattle.port_names.proofs.Given.{parts-given, written-back}
use Rattle.port_names.proofs.Laws.{renamed-whole}
use Rattle.port_names.proofs.renamed.rename_ports.Goals as goal

pub of-requires-2 : goal.of-requires-2
of-requires-2 c =
    let parts = c.into_parts-name.result in
    let to = given_by c.in_ok-renaming.renaming in
    subst IsModule
    (sym (parts-given c.in_ok-renaming.renaming c.args.names.now c.in_ok-renaming.ensures.lists c.args.module parts.0
    (with_items parts.1 c.rename_all_ports.new.ports).items (with_items parts.2 c.rename_items.new.items).items c.into_parts-name.ensures.name
    (written-back parts.1 c.deref_mut.result.now c.rename_all_ports.new.ports (renamed_port to) c.args.module.ports c.deref_mut.ensures.value c.deref_mut.ensures.len c.rename_all_ports.auto.ports
    c.in_ok-rename_all_ports.ensures c.into_parts-name.ensures.ports)
    (written-back parts.2 c.deref_mut-2.result.now c.rename_items.new.items (renamed_item to) c.args.module.items c.deref_mut-2.ensures.value c.deref_mut-2.ensures.len c.rename_items.auto.items
    c.in_ok-rename_items.ensures c.into_parts-name.ensures.items)))
    (renamed-whole c.args.names.now c.args.module c.into_parts-name.ensures.well_formed c.requires c.in_ok-renaming.ensures.named)

pub returns : goal.returns
returns c =
    let parts = c.into_parts-name.result in
    let to = given_by c.in_ok-renaming.renaming in
    parts-given c.in_ok-renaming.renaming c.args.names.now c.in_ok-renaming.ensures.lists c.args.module c.of-2.result.name c.of-2.result.ports c.of-2.result.items
    (c.of-2.ensures.name ∙ c.into_parts-name.ensures.name)
    (c.of-2.ensures.ports
    ∙ written-back parts.1 c.deref_mut.result.now c.rename_all_ports.new.ports (renamed_port to) c.args.module.ports c.deref_mut.ensures.value c.deref_mut.ensures.len c.rename_all_ports.auto.ports
    c.in_ok-rename_all_ports.ensures c.into_parts-name.ensures.ports)
    (c.of-2.ensures.items
    ∙ written-back parts.2 c.deref_mut-2.result.now c.rename_items.new.items (renamed_item to) c.args.module.items c.deref_mut-2.ensures.value c.deref_mut-2.ensures.len c.rename_items.auto.items
    c.in_ok-rename_items.ensures c.into_parts-name.ensures.items)

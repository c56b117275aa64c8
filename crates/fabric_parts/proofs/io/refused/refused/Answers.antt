use Rattle.std.proofs.Common.{ap, sym, ◌∙◌}
use Rattle.std.specs.Prelude.{Some}
use Rattle.ice_image.specs.Either.{configuration_of}
use Rattle.chipdb_reader.specs.Kept.{database_in}
use Rattle.fabric_model.specs.PinTypes.{pintype_of}
use Rattle.fabric_model.specs.Faults.Fault.{pin_mode}
use Rattle.fabric_model.specs.Tiles.{first_of}
use Rattle.fabric_model.proofs.InOrder.{item_if-item, item_if-none}
use Rattle.fabric_parts.specs.PinFaults.{is_refused}
use Rattle.fabric_parts.proofs.io.refused.refused.Goals as goal

pub returns-then-is_refused : goal.returns-then-is_refused
returns-then-is_refused c =
    let db = database_in c.args.db.now in
    let image = configuration_of c.args.image.now in
    let pin = c.args.pin in
    let pintype = pintype_of db image pin.x pin.y pin.n in
    item_if-item (is_refused c.args.all_pins db image pin pintype) (pin_mode pin.x pin.y pin.n pintype)
    (ap (is_refused c.args.all_pins db image pin) (sym c.pintype-pintype.ensures) ∙ sym c.is_refused.ensures ∙ c.if-is_refused.true)
    ∙ ap (λ t. Some (pin_mode pin.x pin.y pin.n t)) (sym c.pintype-pintype.ensures)

pub returns-else-is_refused : goal.returns-else-is_refused
returns-else-is_refused c =
    let db = database_in c.args.db.now in
    let image = configuration_of c.args.image.now in
    let pin = c.args.pin in
    let pintype = pintype_of db image pin.x pin.y pin.n in
    ap first_of (item_if-none (is_refused c.args.all_pins db image pin pintype) (pin_mode pin.x pin.y pin.n pintype)
    (ap (is_refused c.args.all_pins db image pin) (sym c.pintype-pintype.ensures) ∙ sym c.is_refused.ensures ∙ c.if-is_refused.false))

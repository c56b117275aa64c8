use Rattle.std.proofs.Common.{[], List, get_or, arith, ap, sym, ◌∙◌}
use Rattle.ice_image.specs.Either.{configuration_of}
use Rattle.chipdb_reader.specs.Kept.{database_in}
use Rattle.chipdb_reader.specs.declared.items.TileXy8.{TileXy8}
use Rattle.fabric_model.specs.Faults.{Fault}
use Rattle.fabric_model.specs.Faults.Fault.{cascade}
use Rattle.fabric_model.specs.Tiles.{first_of}
use Rattle.fabric_model.specs.Rams.{is_cascaded}
use Rattle.fabric_model.proofs.InOrder.{none_listed-more, first_of-flat_map, gathered-all, item_if-item, item_if-none}
use Rattle.fabric_parts.specs.RamFaults.{cascade_at}
use Rattle.fabric_parts.proofs.ram.cascade.first_cascaded.Goals as goal

pub loop-ram-preserved : goal.loop-ram-preserved
loop-ram-preserved c =
    let db = database_in c.args.db.now in
    let image = configuration_of c.args.image.now in
    let tile : TileXy8 = get_or c.args.rams.now c.loop-ram.ram-index (record { x = 0; y = 0 }) in
    none_listed-more (λ (tile : TileXy8). cascade_at db image tile.x tile.y) c.args.rams.now c.loop-ram.ram-index (record { x = 0; y = 0 }) (omega arith) c.loop-ram.invariant
    (item_if-none (is_cascaded db image tile.x tile.y) (cascade tile.x tile.y) (sym c.is_cascaded.ensures ∙ c.if-is_cascaded.false))

pub returns-then-is_cascaded : goal.returns-then-is_cascaded
returns-then-is_cascaded c =
    let db = database_in c.args.db.now in
    let image = configuration_of c.args.image.now in
    let tile : TileXy8 = get_or c.args.rams.now c.loop-ram.ram-index (record { x = 0; y = 0 }) in
    first_of-flat_map (λ (tile : TileXy8). cascade_at db image tile.x tile.y) c.args.rams.now c.loop-ram.ram-index (record { x = 0; y = 0 }) (cascade tile.x tile.y) (omega arith) c.loop-ram.invariant
    (item_if-item (is_cascaded db image tile.x tile.y) (cascade tile.x tile.y) (sym c.is_cascaded.ensures ∙ c.if-is_cascaded.true))

pub returns : goal.returns
returns c =
    let given : TileXy8 → List Fault = λ tile. cascade_at (database_in c.args.db.now) (configuration_of c.args.image.now) tile.x tile.y in
    ap first_of (sym (gathered-all given c.args.rams.now c.loop-ram.ram-index [] (omega arith) (sym c.loop-ram.invariant)))

use Rattle.std.proofs.Common.{ℕ, [], List, get_or, arith, ap, sym, ◌∙◌}
use Rattle.std.specs.Prelude.{Some}
use Rattle.ice_image.specs.Either.{configuration_of}
use Rattle.chipdb_reader.specs.Kept.{database_in}
use Rattle.chipdb_reader.specs.declared.items.TileXy8.{TileXy8}
use Rattle.fabric_model.specs.Tiles.{first_of}
use Rattle.fabric_model.specs.Plls.{has_pll}
use Rattle.fabric_model.proofs.InOrder.{none_listed-more, first_of-flat_map, gathered-all, item_if-item, item_if-none}
use Rattle.fabric_plls.specs.Plls.{tile_with}
use Rattle.fabric_plls.proofs.unnamed.first_on.Goals as goal

pub loop-tile-preserved : goal.loop-tile-preserved
loop-tile-preserved c =
    let passes : ℕ → ℕ → _ = has_pll (database_in c.args.db.now) (configuration_of c.args.image.now) in
    let tile : TileXy8 = get_or c.args.tiles.now c.loop-tile.tile-index (record { x = 0; y = 0 }) in
    none_listed-more (λ (tile : TileXy8). tile_with passes tile.x tile.y) c.args.tiles.now c.loop-tile.tile-index (record { x = 0; y = 0 }) (omega arith) c.loop-tile.invariant
    (item_if-none (passes tile.x tile.y) (tile.x, tile.y) (sym c.is_any_on.ensures ∙ c.if-is_any_on.false))

pub returns-then-is_any_on : goal.returns-then-is_any_on
returns-then-is_any_on c =
    let passes : ℕ → ℕ → _ = has_pll (database_in c.args.db.now) (configuration_of c.args.image.now) in
    let tile : TileXy8 = get_or c.args.tiles.now c.loop-tile.tile-index (record { x = 0; y = 0 }) in
    ap (λ (place : ℕ × ℕ). Some place) c.tile_at.ensures
    ∙ sym (first_of-flat_map (λ (tile : TileXy8). tile_with passes tile.x tile.y) c.args.tiles.now c.loop-tile.tile-index (record { x = 0; y = 0 }) (tile.x, tile.y) (omega arith) c.loop-tile.invariant
    (item_if-item (passes tile.x tile.y) (tile.x, tile.y) (sym c.is_any_on.ensures ∙ c.if-is_any_on.true)))

pub returns : goal.returns
returns c =
    let given : TileXy8 → List (ℕ × ℕ) = λ tile. tile_with (has_pll (database_in c.args.db.now) (configuration_of c.args.image.now)) tile.x tile.y in
    ap first_of (gathered-all given c.args.tiles.now c.loop-tile.tile-index [] (omega arith) (sym c.loop-tile.invariant))

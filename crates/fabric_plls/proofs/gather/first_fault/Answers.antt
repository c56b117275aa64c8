use Rattle.std.proofs.Common.{◌≡◌, ℕ, Bool, List, ap, sym, ◌∙◌}
use Rattle.std.specs.Option.{option_map}
use Rattle.std.specs.List.{flat_map}
use Rattle.plane_map.specs.declared.tile.TileKind.TheVariants.{Io}
use Rattle.ice_image.specs.Configuration.{Configuration}
use Rattle.ice_image.specs.Either.{configuration_of}
use Rattle.chipdb_reader.specs.Kept.{database_in}
use Rattle.chipdb_reader.specs.declared.items.TileXy8.{TileXy8}
use Rattle.fabric_model.specs.Tiles.{over_tiles, first_of}
use Rattle.fabric_model.specs.TilesOfKind.{tiles_of}
use Rattle.fabric_model.specs.Plls.{has_pll, has_unnamed, lesser_tile, pll_tile, pll_tiles, unnamed_tiles}
use Rattle.fabric_model.proofs.InOrder.{over_tiles-listed}
use Rattle.fabric_plls.specs.Plls.{tile_with}
use Rattle.fabric_plls.specs.Tiles.{place_of}
use Rattle.fabric_plls.proofs.gather.first_fault.Goals as goal

-- the io tiles where a test passes, by the list of io tiles
tiles-listed : (image : Configuration) (passes : ℕ → ℕ → Bool) (tiles : List TileXy8) → tiles ≡ tiles_of image.layout.device Io
    → flat_map (λ (tile : TileXy8). tile_with passes tile.x tile.y) tiles ≡ over_tiles image.layout.device Io (tile_with passes)
tiles-listed image passes tiles are =
    ap (flat_map (λ (tile : TileXy8). tile_with passes tile.x tile.y)) are ∙ sym (over_tiles-listed image.layout.device Io (tile_with passes))

pub returns-then-all_pins : goal.returns-then-all_pins
unfolding pll_tile unnamed_tiles
returns-then-all_pins c =
    let db = database_in c.args.db.now in
    let image = configuration_of c.args.image.now in
    let passes : ℕ → ℕ → Bool = has_unnamed db image in
    let given : List TileXy8 → List (ℕ × ℕ) = flat_map (λ (tile : TileXy8). tile_with passes tile.x tile.y) in
    let unnamed : option_map place_of c.first_unnamed.result ≡ first_of (unnamed_tiles db image) =
    c.first_unnamed.ensures ∙ ap (λ list. first_of (given list)) c.deref.ensures.value ∙ ap first_of (tiles-listed image passes c.in_ok-tiles.tiles.items c.in_ok-tiles.ensures.all) in
    c.lesser.ensures ∙ ap (λ first. lesser_tile first (option_map place_of c.in_ok-refused.refused)) unnamed
    ∙ ap (lesser_tile (first_of (unnamed_tiles db image))) c.in_ok-refused.ensures
    ∙ ap (λ all. pll_tile all db image) (sym c.if-all_pins.true)

pub returns : goal.returns
unfolding pll_tile pll_tiles
returns c =
    let db = database_in c.args.db.now in
    let image = configuration_of c.args.image.now in
    let passes : ℕ → ℕ → Bool = has_pll db image in
    let given : List TileXy8 → List (ℕ × ℕ) = flat_map (λ (tile : TileXy8). tile_with passes tile.x tile.y) in
    c.first_on.ensures ∙ ap (λ list. first_of (given list)) c.deref-else-all_pins.ensures.value ∙ ap first_of (tiles-listed image passes c.in_ok-tiles.tiles.items c.in_ok-tiles.ensures.all)
    ∙ ap (λ all. pll_tile all db image) (sym c.if-all_pins.false)

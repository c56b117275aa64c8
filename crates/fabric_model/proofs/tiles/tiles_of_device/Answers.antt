use Rattle.std.proofs.Common.{◌≡◌, ap, sym, ◌∙◌, arith, List, subst}
use Rattle.std.specs.Prelude.{All, Some}
use Rattle.index_search.specs.Places.{gathered_below}
use Rattle.plane_map.specs.Layout.{kind_of, grid_width, grid_height}
use Rattle.fabric_model.specs.Tiles.{over_grid}
use Rattle.chipdb_reader.specs.declared.items.TileXy8.{TileXy8}
use Rattle.fabric_model.specs.TilesOfKind.{tiles_of, tile_if}
use Rattle.fabric_model.proofs.InOrder.{grown_alone-more, tiles_of-stand}
use Rattle.fabric_model.proofs.tiles.tiles_of_device.Goals as goal

pub loop-y-init : goal.loop-y-init
unfolding gathered_below
loop-y-init c = c.new-tiles.ensures.items

pub loop-y-preserved : goal.loop-y-preserved
loop-y-preserved c = grown_alone-more _ _ _ _ c.loop-y.invariant c.in_ok-append_row.ensures

-- the whole grid was gone through
whole : (c : goal.After-loop-y) → c.loop-y.tiles.items ≡ tiles_of c.args.device c.args.kind
unfolding tiles_of over_grid
whole c =
    let all : c.loop-y.y ≡ grid_height c.args.device = omega (arith, c.rows-y-end.ensures) in
    c.loop-y.invariant ∙ ap (λ n. gathered_below n (λ y. gathered_below (grid_width c.args.device) (λ x. tile_if c.args.device c.args.kind x y))) all

pub returns-clause-all : goal.returns-clause-all
returns-clause-all c = whole c

pub returns-clause-each : goal.returns-clause-each
returns-clause-each c =
    let Each : List TileXy8 → Type 0 = λ tiles. All (λ tile. kind_of c.args.device tile.x tile.y ≡ Some c.args.kind) tiles in
    subst Each (sym (whole c)) (tiles_of-stand c.args.device c.args.kind)

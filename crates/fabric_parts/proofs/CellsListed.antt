-- What is gathered over the tiles in their order is what is gathered over the list of the tiles.
use Rattle.std.proofs.Common.{◌≡◌, List, ap, sym, ◌∙◌}
use Rattle.std.specs.List.{flat_map}
use Rattle.plane_map.specs.declared.tile.TileKind.TheVariants.{Logic}
use Rattle.ice_image.specs.Configuration.{Configuration}
use Rattle.chipdb_reader.specs.Database.{Database}
use Rattle.chipdb_reader.specs.declared.items.TileXy8.{TileXy8}
use Rattle.fabric_model.specs.Cells.{cells_of, cells_at, sets_of, sets_at}
use Rattle.fabric_model.specs.declared.cell.LogicCell.{LogicCell}
use Rattle.fabric_model.specs.declared.cell.CarrySet.{CarrySet}
use Rattle.fabric_model.specs.TilesOfKind.{tiles_of}
use Rattle.fabric_model.proofs.InOrder.{over_tiles-listed}

pub cells_listed : (db : Database) (image : Configuration) (tiles : List TileXy8) → tiles ≡ tiles_of image.layout.device Logic
    → flat_map (λ (tile : TileXy8). cells_at db image tile.x tile.y) tiles ≡ cells_of db image
unfolding cells_of
cells_listed db image tiles all =
    let given : TileXy8 → List LogicCell = λ tile. cells_at db image tile.x tile.y in
    ap (flat_map given) all ∙ sym (over_tiles-listed image.layout.device Logic (cells_at db image))

pub sets_listed : (db : Database) (image : Configuration) (tiles : List TileXy8) → tiles ≡ tiles_of image.layout.device Logic
    → flat_map (λ (tile : TileXy8). sets_at db image tile.x tile.y) tiles ≡ sets_of db image
unfolding sets_of
sets_listed db image tiles all =
    let given : TileXy8 → List CarrySet = λ tile. sets_at db image tile.x tile.y in
    ap (flat_map given) all ∙ sym (over_tiles-listed image.layout.device Logic (sets_at db image))

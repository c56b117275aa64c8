use Rattle.plane_map.specs.Layout.{columns_at}
use Rattle.ice_image.specs.Configuration.{place_bit}
use Rattle.ice_image.specs.Contents.{tile_place}
use Rattle.ice_image.proofs.Spread.{none-gathered}
use Rattle.ice_image.proofs.tiles.row_word.Goals as goal

pub returns-in-None : goal.returns-in-None
returns-in-None g c =
    none-gathered (columns_at c.args.layout.now.device c.args.x c.args.y) (λ col. place_bit c.args.cram.now (tile_place c.args.layout.now c.args.x c.args.y c.args.row col)) c.in-None.ensures

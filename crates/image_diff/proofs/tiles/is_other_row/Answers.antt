use Rattle.std.proofs.Common.{ap}
use Rattle.plane_map.specs.Layout.{columns_at}
use Rattle.ice_image.specs.Bits.{tile_bit_of}
use Rattle.ice_image.specs.Either.{configuration_of}
use Rattle.image_diff.proofs.OtherBits.{row-test}
use Rattle.image_diff.proofs.tiles.is_other_row.Goals as goal

pub returns : goal.returns
returns c =
    let first = configuration_of c.args.first.now in
    let second = configuration_of c.args.second.now in
    row-test (columns_at first.layout.device c.args.x c.args.y) (columns_at second.layout.device c.args.x c.args.y) (tile_bit_of first c.args.x c.args.y c.args.row) (tile_bit_of second c.args.x c.args.y c.args.row) c.tile_row.result c.tile_row-2.result
    (ap (λ device. columns_at device c.args.x c.args.y) c.requires.device) c.tile_row.ensures c.tile_row-2.ensures

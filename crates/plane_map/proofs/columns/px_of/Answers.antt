use Rattle.plane_map.proofs.Places.{tile_bit_x_in, tile_bit_column, px_of-parts}
use Rattle.plane_map.proofs.columns.px_of.Goals as goal

pub side_distance-distance-requires : goal.side_distance-distance-requires
side_distance-distance-requires c = rw c.device.ensures.device (tile_bit_x_in c.args.layout.now c.device.ensures.layout c.args.bit c.requires)

pub turned-requires : goal.turned-requires
turned-requires c =
    let distance = rw c.device.ensures.device at c.side_distance-distance.ensures in
    tile_bit_column c.args.layout.now c.device.ensures.layout c.args.bit c.requires _ _ _ distance c.width.ensures.value c.column_of.ensures

pub returns-clause-value : goal.returns-clause-value
returns-clause-value c =
    let distance = rw c.device.ensures.device at c.side_distance-distance.ensures in
    px_of-parts c.args.layout.now c.device.ensures.layout c.args.bit c.requires _ _ _ _ _ _ distance c.start-start.ensures c.width.ensures.value c.column_of.ensures
    c.is_mirrored-mirrored.ensures c.turned.ensures.value

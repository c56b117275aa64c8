use Rattle.plane_map.proofs.Places.{tile_bit_y_in, py_of-parts}
use Rattle.plane_map.proofs.rows.py_of.Goals as goal

pub end_distance-requires : goal.end_distance-requires
end_distance-requires c = rw c.device.ensures.device (tile_bit_y_in c.args.layout.now c.device.ensures.layout c.args.bit c.requires)

pub returns-clause-value : goal.returns-clause-value
returns-clause-value c =
    let distance = rw c.device.ensures.device at c.end_distance.ensures in
    py_of-parts c.args.layout.now c.device.ensures.layout c.args.bit c.requires _ _ distance c.inner_py.ensures.value

use Rattle.std.proofs.Common.{sym, ◌∙◌}
use Rattle.plane_map.proofs.Places.{tile_bit_col_side, tile_bit_col_end}
use Rattle.plane_map.proofs.columns.column_of.Goals as goal

pub side_column-requires : goal.side_column-requires
side_column-requires c =
    let side = rw c.device-device.ensures.device at c.on_side.ensures in
    tile_bit_col_side c.args.layout.now c.device-device.ensures.layout c.args.bit c.requires (sym side ∙ c.if-on_side.true)

pub pad_column-requires : goal.pad_column-requires
pad_column-requires c =
    let end = rw c.device-device.ensures.device at c.on_end.ensures in
    tile_bit_col_end c.args.layout.now c.device-device.ensures.layout c.args.bit c.requires (sym end ∙ c.if-on_end.true)

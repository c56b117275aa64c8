use Rattle.std.proofs.Common.{◌≡◌, ◌+◌, ◌/◌, ◌%◌, ◌<◌, ap, sym, ◌∙◌, arith}
use Rattle.plane_map.specs.Layout.{columns_in, grid_width, grid_height}
use Rattle.plane_map.specs.declared.tile.TileBit.{TileBit}
use Rattle.plane_map.specs.declared.tile.TileKind.TheVariants.{Logic}
use Rattle.ice_image.specs.Either.{configuration_of, device_of}
use Rattle.ice_image.specs.Bits.{OfTile}
use Rattle.ice_gen.specs.Numbers.{cell_number}
use Rattle.ice_gen.specs.Image.{is_row_bit, lut_draw, choice_draw}
use Rattle.ice_gen.specs.Inside.{is_tile_before, turn}
use Rattle.plane_map.proofs.Grids.{grid_width-le, kind_of-inside}
use Rattle.ice_gen.proofs.Filled.{cell-bit-is, filled-on, skip-columns}
use Rattle.ice_gen.proofs.cells.fill_row.Goals as goal

pub cell_number-j-requires-clause-column : goal.cell_number-j-requires-clause-column
cell_number-j-requires-clause-column c =
    let inside = kind_of-inside (device_of c.args.image.now) c.args.x c.args.y Logic c.requires.logic in
    omega (arith, inside.0, ap grid_width c.device-device.ensures.device, c.from.ensures)

pub cell_number-j-requires-clause-row : goal.cell_number-j-requires-clause-row
cell_number-j-requires-clause-row c =
    let inside = kind_of-inside (device_of c.args.image.now) c.args.x c.args.y Logic c.requires.logic in
    omega (arith, inside.1, ap grid_height c.device-device.ensures.device, c.from-2.ensures)

pub loop-col-preserved : goal.loop-col-preserved
loop-col-preserved c =
    let device = device_of c.args.image.now in
    let x = c.args.x in
    let y = c.args.y in
    let row = c.args.row in
    let col = c.loop-col.col in
    let j = c.cell_number-j.result in
    let at : TileBit = record { x = x; y = y; row = row; col = col } in
    let more : turn x y row col + 1 ≡ turn x y row (col + 1) = omega arith in
    let j_is : j ≡ cell_number device x y (row / 2) = cc (c.cell_number-j.ensures.number, c.device-device.ensures.device, c.from.ensures, c.from-2.ensures, c.from-3.ensures) in (
      c.fill_tile_bit.ensures.device ∙ c.loop-col.invariant.0,
      λ seed lut_is choice_is filled.
          filled-on is_tile_before device (device_of c.loop-col.image) seed (turn x y row col) (turn x y row (col + 1)) (OfTile at) c.is_row_bit-bit.result (configuration_of c.loop-col.image) (configuration_of c.fill_tile_bit.new.image) c.loop-col.invariant.0 more (c.fill_tile_bit.ensures.filled seed)
          (cell-bit-is device seed x y row col j c.args.lut c.args.choice c.is_row_bit-bit.result c.requires.logic j_is lut_is choice_is (c.is_row_bit-bit.ensures ∙ ap (λ d. is_row_bit d j c.args.lut c.args.choice (row % 2) col) c.device-device.ensures.device))
          (c.loop-col.invariant.1 seed lut_is choice_is filled),
    )

pub returns-clause-filled : goal.returns-clause-filled
returns-clause-filled c =
    let device = device_of c.args.image.now in
    let inside = kind_of-inside device c.args.x c.args.y Logic c.requires.logic in
    let near : c.args.x < 34 = omega (arith, inside.0, grid_width-le device) in
    let last : c.loop-col.col ≡ 54 = omega arith in
    let j_is : c.cell_number-j.result ≡ cell_number device c.args.x c.args.y (c.args.row / 2) = cc (c.cell_number-j.ensures.number, c.device-device.ensures.device, c.from.ensures, c.from-2.ensures, c.from-3.ensures) in
    λ seed lut_is choice_is filled.
    skip-columns device seed (configuration_of c.loop-col.image) c.args.x c.args.y c.args.row c.loop-col.col near (ap columns_in c.requires.logic ∙ sym last) c.requires.row (c.loop-col.invariant.1 seed (lut_is ∙ ap (λ j. lut_draw seed j) (sym j_is)) (choice_is ∙ ap (λ j. choice_draw seed j) (sym j_is)) filled)

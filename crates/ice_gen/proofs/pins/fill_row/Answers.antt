use Rattle.std.proofs.Common.{◌≡◌, ◌+◌, ◌<◌, ap, sym, ◌∙◌, arith}
use Rattle.plane_map.specs.Layout.{columns_in}
use Rattle.plane_map.specs.declared.tile.TileBit.{TileBit}
use Rattle.plane_map.specs.declared.tile.TileKind.TheVariants.{Io}
use Rattle.ice_image.specs.Either.{configuration_of, device_of}
use Rattle.ice_image.specs.Bits.{OfTile}
use Rattle.ice_gen.specs.Image.{is_tile_bit}
use Rattle.ice_gen.specs.Inside.{is_tile_before, turn}
use Rattle.plane_map.proofs.Grids.{grid_width-le, kind_of-inside}
use Rattle.ice_gen.proofs.Filled.{filled-on, skip-columns}
use Rattle.ice_gen.proofs.pins.fill_row.Goals as goal

pub loop-col-preserved : goal.loop-col-preserved
loop-col-preserved c =
    let device = device_of c.args.image.now in
    let x = c.args.x in
    let y = c.args.y in
    let row = c.args.row in
    let col = c.loop-col.col in
    let at : TileBit = record { x = x; y = y; row = row; col = col } in
    let more : turn x y row col + 1 ≡ turn x y row (col + 1) = omega arith in (
      c.fill_tile_bit.ensures.device ∙ c.loop-col.invariant.0,
      λ seed filled.
          filled-on is_tile_before device (device_of c.loop-col.image) seed (turn x y row col) (turn x y row (col + 1)) (OfTile at) c.is_pin_bit.result (configuration_of c.loop-col.image) (configuration_of c.fill_tile_bit.new.image) c.loop-col.invariant.0 more (c.fill_tile_bit.ensures.filled seed)
          (ap (λ k. is_tile_bit device seed k x y row col) c.requires.io ∙ sym c.is_pin_bit.ensures) (c.loop-col.invariant.1 seed filled),
    )

pub returns-clause-filled : goal.returns-clause-filled
returns-clause-filled c =
    let device = device_of c.args.image.now in
    let inside = kind_of-inside device c.args.x c.args.y Io c.requires.io in
    let near : c.args.x < 34 = omega (arith, inside.0, grid_width-le device) in
    let last : c.loop-col.col ≡ 18 = omega arith in
    λ seed filled.
    skip-columns device seed (configuration_of c.loop-col.image) c.args.x c.args.y c.args.row c.loop-col.col near (ap columns_in c.requires.io ∙ sym last) c.requires.row (c.loop-col.invariant.1 seed filled)

use Rattle.std.proofs.Common.{◌+◌, ap, ◌∙◌, arith}
use Rattle.bit_plane.specs.BitList.{bit_value}
use Rattle.bit_plane.proofs.Words.{bool_byte-is}
use Rattle.plane_map.specs.declared.tile.TileKind.TheVariants.{RamB}
use Rattle.ice_image.specs.Bits.{OfTile}
use Rattle.ice_image.specs.Either.{device_of}
use Rattle.asc_text.proofs.Refusals.{in_grid}
use Rattle.bram_replace.proofs.Statements.{upper-bit}
use Rattle.bram_replace.proofs.modes.mode_bit.Goals as goal

pub overflow_add-at : goal.overflow_add-at
overflow_add-at c = omega (arith, (in_grid (device_of c.args.image.now) c.args.x c.args.y RamB c.requires.kind).1)

pub tile_bit-requires : goal.tile_bit-requires
tile_bit-requires c = upper-bit (device_of c.args.image.now) c.args.x c.args.y c.args.row c.requires.kind c.requires.row

pub returns-clause-is : goal.returns-clause-is
returns-clause-is c text bits =
    let there = upper-bit (device_of c.args.image.now) c.args.x c.args.y c.args.row c.requires.kind c.requires.row in
    c.from.ensures ∙ bool_byte-is _ ∙ ap bit_value (c.tile_bit.ensures ∙ bits.bits (OfTile (record { x = c.args.x; y = c.args.y + 1; row = c.args.row; col = 7 })) there)

use Rattle.std.proofs.Common.{sym, ◌∙◌, arith}
use Rattle.plane_map.specs.Layout.{columns_of}
use Rattle.index_search.proofs.Places.{any_below-at}
use Rattle.ice_image.specs.Either.{configuration_of}
use Rattle.ice_image.specs.Bits.{tile_bit_of}
use Rattle.image_explain.proofs.unknown.is_set_row.Goals as goal

pub returns-then-tile_bit : goal.returns-then-tile_bit
returns-then-tile_bit c =
    sym (any_below-at (columns_of c.args.at.kind) c.loop-col.col (λ col. tile_bit_of (configuration_of c.args.image.now) c.args.at.x c.args.at.y c.args.row col) (omega arith) (sym c.tile_bit.ensures ∙ c.if-tile_bit.true))

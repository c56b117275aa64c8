use Rattle.std.proofs.Common.{◌≡◌, ap, sym, ◌∙◌, arith}
use Rattle.plane_map.specs.Layout.{columns_of}
use Rattle.index_search.specs.Places.{any_below}
use Rattle.index_search.proofs.Places.{any_below-at}
use Rattle.ice_image.specs.Either.{configuration_of}
use Rattle.ice_image.specs.Bits.{tile_bit_of}
use Rattle.image_explain.specs.Explained.{is_set_tile}
use Rattle.image_explain.proofs.unknown.is_set_tile.Goals as goal

pub returns-then-is_set_row : goal.returns-then-is_set_row
unfolding is_set_tile
returns-then-is_set_row c =
    sym (any_below-at 16 c.loop-row.row (λ row. any_below (columns_of c.args.at.kind) (λ col. tile_bit_of (configuration_of c.args.image.now) c.args.at.x c.args.at.y row col)) (omega arith) (sym c.is_set_row.ensures ∙ c.if-is_set_row.true))

pub returns : goal.returns
unfolding is_set_tile
returns c =
    let last : 16 ≡ c.loop-row.row = omega arith in
    sym (ap (λ n. any_below n (λ row. any_below (columns_of c.args.at.kind) (λ col. tile_bit_of (configuration_of c.args.image.now) c.args.at.x c.args.at.y row col))) last ∙ c.loop-row.invariant)

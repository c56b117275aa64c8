use Rattle.std.proofs.Common.{◌≡◌, sym, ◌∙◌, ap, arith}
use Rattle.std.proofs.lemmas.Bool.{or_from}
use Rattle.index_search.specs.Places.{any_below}
use Rattle.index_search.proofs.Places.{any_below-at, any_below-more}
use Rattle.plane_map.specs.Layout.{columns_at}
use Rattle.ice_image.specs.Bits.{tile_bit_of}
use Rattle.ice_image.specs.Either.{configuration_of}
use Rattle.image_diff.specs.Differences.{differ, is_other_tile}
use Rattle.image_diff.proofs.tiles.is_other_tile.Goals as goal

pub returns-then-is_other_row : goal.returns-then-is_other_row
unfolding is_other_tile
returns-then-is_other_row c =
    let first = configuration_of c.args.first.now in
    let second = configuration_of c.args.second.now in
    sym (any_below-at 16 c.loop-row.row (λ row. any_below (columns_at first.layout.device c.args.x c.args.y) (λ col. differ (tile_bit_of first c.args.x c.args.y row col) (tile_bit_of second c.args.x c.args.y row col))) (omega arith) (sym c.is_other_row.ensures ∙ c.if-is_other_row.true))

pub loop-row-preserved : goal.loop-row-preserved
loop-row-preserved c =
    let first = configuration_of c.args.first.now in
    let second = configuration_of c.args.second.now in
    any_below-more c.loop-row.row (λ row. any_below (columns_at first.layout.device c.args.x c.args.y) (λ col. differ (tile_bit_of first c.args.x c.args.y row col) (tile_bit_of second c.args.x c.args.y row col)))
    ∙ or_from _ _ c.loop-row.invariant (sym c.is_other_row.ensures ∙ c.if-is_other_row.false)

pub returns : goal.returns
unfolding is_other_tile
returns c =
    let first = configuration_of c.args.first.now in
    let second = configuration_of c.args.second.now in
    let last : c.loop-row.row ≡ 16 = omega arith in
    sym (ap (λ n. any_below n (λ row. any_below (columns_at first.layout.device c.args.x c.args.y) (λ col. differ (tile_bit_of first c.args.x c.args.y row col) (tile_bit_of second c.args.x c.args.y row col)))) (sym last) ∙ c.loop-row.invariant)

use Rattle.std.proofs.Common.{◌≡◌, ◌++◌, ap, ◌∙◌, arith}
use Rattle.bit_plane.specs.Rows.{bit_at}
use Rattle.plane_map.specs.Layout.{columns_of}
use Rattle.index_search.specs.Places.{gathered_below}
use Rattle.ice_image.specs.Either.{configuration_of}
use Rattle.image_explain.specs.Items.{unknown_in, unknown_items}
use Rattle.image_explain.proofs.unknown.push_unknown.Goals as goal

pub returns : goal.returns
unfolding unknown_items
returns c =
    let last : c.loop-row.row ≡ 16 = omega arith in
    c.loop-row.invariant ∙ ap (λ n. c.args.items.now.items ++ gathered_below n (unknown_in (configuration_of c.args.image.now) c.args.at.x c.args.at.y (λ row col. bit_at c.args.known.now col row) (columns_of c.args.at.kind))) last

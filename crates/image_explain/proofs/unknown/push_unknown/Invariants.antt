use Rattle.std.proofs.Common.{◌≡◌, ◌++◌}
use Rattle.index_search.specs.Places.{gathered_below}
use Rattle.bit_plane.specs.Rows.{bit_at}
use Rattle.plane_map.specs.Layout.{columns_of}
use Rattle.ice_image.specs.Either.{configuration_of}
use Rattle.image_explain.specs.Items.{unknown_in}
use Rattle.image_explain.proofs.unknown.push_unknown.Given as goal

abbrev pub invariant-loop-row : goal.invariant-loop-row
invariant-loop-row l =
    l.items.items ≡ l.initial.items.items ++ gathered_below l.row (unknown_in (configuration_of l.image) l.at.x l.at.y (λ row col. bit_at l.known col row) (columns_of l.at.kind))

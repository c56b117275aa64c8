use Rattle.std.proofs.Common.{◌≡◌, ◌++◌}
use Rattle.bit_plane.specs.Rows.{bit_at}
use Rattle.ice_image.specs.Either.{configuration_of}
use Rattle.image_explain.specs.Items.{unknown_in}
use Rattle.image_explain.proofs.unknown.push_unknown_of_row.Given as goal

abbrev pub invariant-loop-col : goal.invariant-loop-col
invariant-loop-col l = l.items.items ≡ l.initial.items.items ++ unknown_in (configuration_of l.image) l.at.x l.at.y (λ row col. bit_at l.known col row) l.col l.row

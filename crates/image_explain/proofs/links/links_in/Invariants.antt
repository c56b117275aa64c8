use Rattle.std.proofs.Common.{◌≡◌}
use Rattle.std.specs.Prelude.{slice_get}
use Rattle.index_search.specs.Places.{gathered_below}
use Rattle.ice_image.specs.Either.{configuration_of}
use Rattle.chipdb_reader.specs.Kept.{link_lines}
use Rattle.image_explain.specs.Items.{link_here}
use Rattle.image_explain.proofs.links.links_in.Given as goal

abbrev pub invariant-loop-index : goal.invariant-loop-index
invariant-loop-index l =
    l.places.items ≡ gathered_below l.index (λ place. link_here (configuration_of l.image) l.x l.y place (slice_get (link_lines l.db.bits l.links) place))

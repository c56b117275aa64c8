use Rattle.std.proofs.Common.{◌≡◌}
use Rattle.std.specs.Prelude.{slice_get}
use Rattle.index_search.specs.Places.{gathered_below}
use Rattle.ice_image.specs.Either.{configuration_of}
use Rattle.chipdb_reader.specs.Kept.{database_in}
use Rattle.image_explain.specs.Items.{function_here}
use Rattle.image_explain.proofs.functions.functions_on.Given as goal

abbrev pub invariant-loop-index : goal.invariant-loop-index
invariant-loop-index l =
    l.places.items ≡ gathered_below l.index (λ place. function_here (configuration_of l.image) l.at.x l.at.y l.at.kind (database_in l.db).functions place (slice_get (database_in l.db).functions place))

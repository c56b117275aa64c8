use Rattle.std.proofs.Common.{◌≡◌}
use Rattle.index_search.specs.Places.{gathered_below}
use Rattle.ice_image.specs.Either.{configuration_of}
use Rattle.chipdb_reader.specs.Kept.{database_in}
use Rattle.fabric_model.specs.Pins.{nets_from, global_source}
use Rattle.fabric_parts.proofs.io.globals.globals.Given as goal

abbrev pub invariant-loop-g : goal.invariant-loop-g
invariant-loop-g l = l.globals.items ≡ gathered_below l.g (λ g. nets_from (database_in l.db) g (global_source l.sources (database_in l.db) (configuration_of l.image) g))

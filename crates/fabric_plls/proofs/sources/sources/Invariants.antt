use Rattle.std.proofs.Common.{◌≡◌, take}
use Rattle.std.specs.List.{flat_map}
use Rattle.ice_image.specs.Either.{configuration_of}
use Rattle.chipdb_reader.specs.Kept.{database_in}
use Rattle.fabric_plls.specs.Plls.{kept_sources}
use Rattle.fabric_plls.proofs.sources.sources.Given as goal

abbrev pub invariant-loop-pll : goal.invariant-loop-pll
invariant-loop-pll l = l.sources.items ≡ flat_map (kept_sources (database_in l.db) (configuration_of l.image)) (take l.pll-index l.pll-items)

use Rattle.std.proofs.Common.{◌≡◌, ◌++◌, take}
use Rattle.std.specs.List.{flat_map}
use Rattle.ice_image.specs.Either.{configuration_of}
use Rattle.chipdb_reader.specs.Kept.{database_in, pll_of}
use Rattle.fabric_model.specs.Plls.{source_of}
use Rattle.fabric_plls.proofs.sources.append_sources.Given as goal

abbrev pub invariant-loop-output : goal.invariant-loop-output
invariant-loop-output l =
    l.sources.items ≡ l.initial.sources.items ++ flat_map (source_of (database_in l.db) (configuration_of l.image) (pll_of l.pll)) (take l.output-index l.output-items)

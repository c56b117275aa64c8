use Rattle.std.proofs.Common.{◌≡◌, take}
use Rattle.std.specs.Prelude.{filter}
use Rattle.ice_image.specs.Either.{configuration_of}
use Rattle.chipdb_reader.specs.Kept.{database_in}
use Rattle.fabric_model.specs.PllPorts.{is_source_read}
use Rattle.fabric_parts.proofs.io.plls.pll_ports.Given as goal

abbrev pub invariant-loop-source : goal.invariant-loop-source
invariant-loop-source l = l.ports.items ≡ filter (is_source_read (database_in l.db) (configuration_of l.image)) (take l.source-index l.sources)

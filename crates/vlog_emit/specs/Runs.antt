-- When a module runs as the fabric of a database and an image.
use Rattle.std.specs.Prelude.{List, map}
use Rattle.std.specs.List.{AllZip}
use Rattle.ice_image.specs.Configuration.{Configuration}
use Rattle.chipdb_reader.specs.Database.{Database}
use Rattle.vlog_module.specs.Parts.{Parts}
use Rattle.vlog_semantics.specs.Run.{module_run}
use Rattle.fabric_model.specs.declared.options.FabricOptions.{FabricOptions}
use Rattle.fabric_model.specs.Fabric.{fabric_with, reading_all}
use Rattle.fabric_model.specs.Steps.{Event, Entry, IsRun}
use Rattle.fabric_model.specs.Unique.{ExactlyOne}
use Rattle.fabric_module.specs.Matching.{Matches, module_event}

-- The fabric with these options, whose LUTs read all inputs, has exactly one run for each list of events, and the module runs as it does: at the start and after each event the two
-- hold the same values.
pub record RunsAs (options : FabricOptions) (db : Database) (image : Configuration) (made : Parts) : Type 0 where
  pub one_run : (events : List Event) → ExactlyOne (IsRun (fabric_with (reading_all options) db image) events)
  pub alike : (events : List Event) (entries : List Entry) → IsRun (fabric_with (reading_all options) db image) events entries
      → AllZip (Matches (fabric_with (reading_all options) db image)) entries (module_run made (map module_event events))

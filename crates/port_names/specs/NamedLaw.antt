-- What holds of the module whose ports have the names of a pin file.
use Rattle.std.specs.Prelude.{◌≡◌, ℕ, ◌^◌, ◌≤◌, List, map, None}
use Rattle.std.specs.List.{AllZip}
use Rattle.ice_image.specs.Configuration.{Configuration}
use Rattle.chipdb_reader.specs.Database.{Database}
use Rattle.chipdb_reader.specs.Fit.{IsFit}
use Rattle.vlog_module.specs.Names.{IsName}
use Rattle.vlog_module.specs.Parts.{Parts}
use Rattle.vlog_module.specs.WellFormed.{IsModule}
use Rattle.vlog_semantics.specs.Run.{module_run}
use Rattle.fabric_model.specs.declared.options.FabricOptions.{FabricOptions}
use Rattle.fabric_model.specs.Fabric.{fabric_with, reading_all}
use Rattle.fabric_model.specs.Steps.{Event, Entry, IsRun}
use Rattle.fabric_model.specs.Unique.{ExactlyOne}
use Rattle.graph_order.specs.Wiring.{IsWriteOrder}
use Rattle.fabric_model.specs.Wiring.{clocked_wiring}
use Rattle.fabric_model.specs.Faults.{design_fault}
use Rattle.fabric_module.specs.Matching.{module_event}
use Rattle.pin_file.specs.declared.pin_name.PinName.{PinName}
use Rattle.fabric_module.specs.Law.{CutsNoWave}
use Rattle.port_names.specs.Named.{AreAccepted, named_module, named_ports}
use Rattle.port_names.specs.Matching.{MatchesNamed}

-- A module has the ports of the fabric, with the names that the pin file gives. The fabric with these options, whose LUTs read all inputs, has
-- exactly one run for each list of events, and no event of it is cut. The module runs as it does: at the start and after each event the two
-- hold the same values.
pub record RunsNamed (named : List PinName) (options : FabricOptions) (db : Database) (image : Configuration) (made : Parts) : Type 0 where
  pub ports : made.ports ≡ named_ports named (fabric_with (reading_all options) db image)
  pub one_run : (events : List Event) → ExactlyOne (IsRun (fabric_with (reading_all options) db image) events)
  pub uncut : CutsNoWave (fabric_with (reading_all options) db image)
  pub alike : (events : List Event) (entries : List Entry) → IsRun (fabric_with (reading_all options) db image) events entries
      → AllZip (MatchesNamed named (fabric_with (reading_all options) db image)) entries (module_run made (map module_event events))

-- If neither a database and an image nor a pin file for their pins is refused, the module that is written for them in the write order, with
-- the names of the pin file, is well-formed and runs as their fabric, with each choice of options. A database that was read from a text is
-- fit, and has fewer nets than the bound.
abbrev pub NamedIsFabric : List PinName → FabricOptions → Database → Configuration → Type 0
NamedIsFabric named options db image =
    IsFit db → (fabric_with options db image).nets ≤ 2 ^ 64 → design_fault options db image ≡ None → AreAccepted (fabric_with (reading_all options) db image).pins named
    → (order name : List ℕ) → IsWriteOrder (clocked_wiring (fabric_with options db image)) order → IsName name
    → let made = named_module named (fabric_with options db image) order name in IsModule made × RunsNamed named options db image made

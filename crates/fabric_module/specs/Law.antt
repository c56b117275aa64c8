-- What holds of the module that is written for a database and an image.
use Rattle.std.specs.Prelude.{◌≡◌, ℕ, ◌^◌, ◌≤◌, List, map, None}
use Rattle.std.specs.List.{AllZip}
use Rattle.ice_image.specs.Configuration.{Configuration}
use Rattle.chipdb_reader.specs.Database.{Database}
use Rattle.chipdb_reader.specs.Fit.{IsFit}
use Rattle.vlog_module.specs.Names.{IsName}
use Rattle.vlog_module.specs.WellFormed.{IsModule}
use Rattle.vlog_semantics.specs.Run.{module_run}
use Rattle.fabric_model.specs.declared.options.FabricOptions.{FabricOptions}
use Rattle.fabric_model.specs.Fabric.{Fabric, fabric_with, reading_all}
use Rattle.fabric_model.specs.Steps.{Event, Entry, Follows, IsEntry, IsRun, IsUncut}
use Rattle.fabric_model.specs.Unique.{ExactlyOne}
use Rattle.graph_order.specs.Wiring.{IsWriteOrder}
use Rattle.fabric_model.specs.Wiring.{clocked_wiring}
use Rattle.fabric_model.specs.Faults.{design_fault}
use Rattle.fabric_module.specs.Written.{module_of}
use Rattle.fabric_module.specs.Matching.{Matches, module_event}

-- The bound on the waves of an event cuts none: after the last wave no register that has a register as its clock has an edge.
abbrev pub CutsNoWave : Fabric → Type 0
CutsNoWave fabric = (before after : Entry) (event : Event) (follows : Follows fabric before event after) → IsEntry fabric before → IsUncut fabric before event after follows

-- The fabric of a database and an image whose LUTs read all inputs has exactly one run for each list of events, and no event of it is cut. The
-- module that is written with these options runs as the fabric does: at the start and after each event the two hold the same values.
pub record RunsAlike (options : FabricOptions) (db : Database) (image : Configuration) (order name : List ℕ) : Type 0 where
  pub one_run : (events : List Event) → ExactlyOne (IsRun (fabric_with (reading_all options) db image) events)
  pub uncut : CutsNoWave (fabric_with (reading_all options) db image)
  pub alike : (events : List Event) (entries : List Entry) → IsRun (fabric_with (reading_all options) db image) events entries
      → AllZip (Matches (fabric_with (reading_all options) db image)) entries (module_run (module_of (fabric_with options db image) order name) (map module_event events))

-- If a database and an image aren't refused, the module that is written for them in the write order, under any name, is well-formed, and it
-- runs as their fabric, with each choice of options. A database that was read from a text is fit, and has fewer nets than the bound.
abbrev pub ModuleIsFabric : FabricOptions → Database → Configuration → Type 0
ModuleIsFabric options db image =
    IsFit db → (fabric_with options db image).nets ≤ 2 ^ 64 → design_fault options db image ≡ None
    → (order name : List ℕ) → IsWriteOrder (clocked_wiring (fabric_with options db image)) order → IsName name
    → IsModule (module_of (fabric_with options db image) order name) × RunsAlike options db image order name

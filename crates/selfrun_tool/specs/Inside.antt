-- What holds along the way. Only contracts within this crate cite this.
use Rattle.std.specs.Prelude.{◌≡◌, Bool, List, length, flat_map}
use Rattle.ice_image.specs.Configuration.{Configuration}
use Rattle.chipdb_reader.specs.Database.{Database}
use Rattle.ice_gen.specs.declared.event.PinEvent.{PinEvent}
use Rattle.vlog_semantics.specs.Entries.{Entry as ModuleEntry}
use Rattle.vlog_semantics.specs.Named.{values_of}
use Rattle.fabric_model.specs.declared.options.FabricOptions.{FabricOptions}
use Rattle.fabric_model.specs.Fabric.{fabric_with, inputs_of, reading_all}
use Rattle.fabric_model.specs.Steps.{Event, Entry, IsRun}
use Rattle.fabric.specs.Kept.{Kept}
use Rattle.fabric.specs.Design.{IsDesignOf}
use Rattle.tool_run.specs.Lines.{refusal_text}
use Rattle.tool_run.specs.Tasks.{Answer, Refused as Refuses}
use Rattle.tool_run.specs.declared.tool.Stop.{Stop}
use Rattle.tool_run.specs.declared.tool.Stop.TheVariants.{Refused, Quiet, UsageError, Memory}
use Rattle.selfrun_tool.specs.declared.counting.Ran.{Ran}
use Rattle.selfrun_tool.specs.Counted.{events_for, ones_in, output_bits}

-- the output bits of a module at the start and after each event
abbrev pub module_bits : List ModuleEntry → List Bool
module_bits entries = flat_map (λ entry. values_of entry.outputs) entries

-- the events of a fabric with these options, from those that were made
abbrev pub fabric_events : FabricOptions → Database → Configuration → List PinEvent → List Event
fabric_events options db image made = events_for (inputs_of (fabric_with (reading_all options) db image)) made

-- what was counted of a run are the counts of the run of the fabric
pub record HasRun (options : FabricOptions) (db : Database) (image : Configuration) (made : List PinEvent) (ran : Ran) : Type 0 where
  pub events : ran.events ≡ length (fabric_events options db image made)
  pub ones : (entries : List Entry) → IsRun (fabric_with (reading_all options) db image) (fabric_events options db image made) entries → ran.ones ≡ ones_in (output_bits entries)

-- what was counted of a run, for each database and image that the design is of
abbrev pub IsRunOf : Kept → List PinEvent → Ran → Type 0
IsRunOf design made ran = (db : Database) (image : Configuration) → IsDesignOf db image design → HasRun design.parts.options db image made ran

-- a tool stops with a refusal that is an answer, or out of memory
abbrev pub StopsAs : (Answer → Type 0) → Stop → Type 0
StopsAs IsGiven (Refused refusal) = IsGiven (Refuses (refusal_text refusal))
StopsAs IsGiven Quiet = ⊥
StopsAs IsGiven (UsageError refusal) = ⊥
StopsAs IsGiven Memory = Unit {0}

-- What a run of `vlogrun` promises for the module of a design: it is the run of the design's fabric.
use Rattle.std.specs.Prelude.{◌≡◌, ℕ, Bool, false, List, [], codes, get_or, Option, None, Some}
use Rattle.clap.specs.Words.{matches_of}
use Rattle.ice_image.specs.Configuration.{Configuration}
use Rattle.chipdb_reader.specs.Database.{Database}
use Rattle.vlog_module.specs.declared.modules.Port.{Port}
use Rattle.vlog_module.specs.Parts.{Parts}
use Rattle.vlog_module.specs.Names.{IsName}
use Rattle.vlog_forms.specs.Items.{IsSpelling}
use Rattle.fabric_model.specs.declared.pin.Pin.{Pin}
use Rattle.fabric_model.specs.Fabric.{Fabric, fabric_with, reading_all}
use Rattle.fabric_model.specs.Steps.{Entry, IsRun}
use Rattle.fabric.specs.Kept.{Kept}
use Rattle.fabric.specs.Design.{IsDesignOf}
use Rattle.fabric_module.specs.Written.{module_of, ports_of}
use Rattle.pin_file.specs.declared.pin_name.PinName.{PinName}
use Rattle.port_names.specs.Named.{AreAccepted, named_module, named_ports}
use Rattle.tool_run.specs.Runs.{Outside, Scene}
use Rattle.tool_run.specs.Tasks.{asks_for_help}
use Rattle.tool_inputs.specs.Appended.{AppendsFor}
use Rattle.tool_inputs.specs.Commands.{has_flag}
use Rattle.module_tools.specs.Vlogrun.{vlogrun_command, vlogrun_outcome}
use Rattle.design_answers.specs.Lines.{fabric_events, fabric_text}

-- the ports of a design's module, which have the names of a pin file, or their own
abbrev pub ports_with : Option (List PinName) → Fabric → List Port
ports_with None fabric = ports_of fabric
ports_with (Some named) fabric = named_ports named fabric

-- the module of a fabric with these ports
abbrev pub module_with : Option (List PinName) → Fabric → List ℕ → List ℕ → Parts
module_with None fabric order name = module_of fabric order name
module_with (Some named) fabric order name = named_module named fabric order name

-- these are the names of a pin file without a fault, for these pins
abbrev pub AreTaken : Option (List PinName) → List Pin → Type 0
AreTaken None pins = Unit {0}
AreTaken (Some named) pins = AreAccepted pins named

-- the fabric that a design of a database and an image is for: it has the design's options, but its LUTs read all of their inputs
abbrev pub fabric_for : Kept → Database → Configuration → Fabric
fabric_for design db image = fabric_with (reading_all design.parts.options) db image

-- This is the module of a design of a database and an image, under some name. Its ports have the names of a pin file, or their own.
pub record IsModuleOf (names : Option (List PinName)) (db : Database) (image : Configuration) (m : Parts) : Type 0 where
  pub design : Kept
  pub name : List ℕ
  pub is_design : IsDesignOf db image design
  pub is_name : IsName name
  pub are_taken : AreTaken names (fabric_for design db image).pins
  pub is : m ≡ module_with names (fabric_with design.parts.options db image) design.order name

-- if the first of two texts spells the module of a design, the bytes are the lines of the run of the design's fabric over the events of the
-- second
abbrev pub RunsFabric : Bool → List (List ℕ) → List ℕ → Type 0
RunsFabric registers texts bytes =
    (names : Option (List PinName)) (db : Database) (image : Configuration) (m : Parts) (is : IsModuleOf names db image m) → IsSpelling (get_or texts 0 []) m
    → (entries : List Entry)
    → IsRun (fabric_for is.design db image) (fabric_events (ports_with names (fabric_for is.design db image)) (get_or texts 1 [])) entries
    → bytes ≡ fabric_text registers entries

-- whether the arguments of `vlogrun` have a flag
abbrev pub asks : List ℕ → List (List ℕ) → Bool
asks id args = has_flag id (matches_of vlogrun_command args)

-- whether they ask for registers
abbrev pub shows_registers : List (List ℕ) → Bool
shows_registers args = asks (codes "registers") args

-- they ask for all lines of the run over a plain list, without the names before them
pub record TellsAll (args : List (List ℕ)) : Type 0 where
  pub lines : asks (codes "vcd") args ≡ false
  pub plain : asks (codes "long") args ≡ false
  pub unfiltered : asks (codes "changes") args ≡ false
  pub each : asks (codes "last") args ≡ false
  pub nameless : asks (codes "head") args ≡ false

-- If a run of `vlogrun` with these arguments has status 0, isn't asked for help, and is asked for all lines over a plain list, then there are
-- texts of its files and of standard input such that the bytes that it appended are the lines of the run of a design's fabric, if the first text spells that design's
-- module. Each text is within its limit. Where files and input tell their contents, as those in memory do, the texts are these contents;
-- real files tell nothing of them.
abbrev pub PromisesRun : {F I O E : Type 0} → Outside F I O E → List (List ℕ) → ℕ → Scene F I O E → Scene F I O E → Type 0
PromisesRun by args status old new =
    status ≡ 0 → asks_for_help args ≡ false → TellsAll args → AppendsFor by (RunsFabric (shows_registers args)) (vlogrun_outcome args) old new

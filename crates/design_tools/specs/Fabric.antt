-- What a written module promises: it behaves as the fabric of the database and the image for which it was written.
use Rattle.std.specs.Prelude.{◌≡◌, ℕ, Bool, false, List, [], map, codes, get_or, Option, Some, None, Ok}
use Rattle.std.specs.List.{AllZip}
use Rattle.clap.specs.Words.{first_of, matches_of}
use Rattle.layout_file.specs.declared.layouts.Layouts.{Layouts}
use Rattle.tool_inputs.specs.Layouts.{layouts_for}
use Rattle.ice_image.specs.Configuration.{Configuration}
use Rattle.chipdb_reader.specs.Database.{Database}
use Rattle.vlog_forms.specs.Items.{IsSpelling}
use Rattle.vlog_module.specs.Parts.{Parts}
use Rattle.wire_names.specs.Faults.{names_fault_of}
use Rattle.vlog_run.specs.Events.{events_of}
use Rattle.vlog_semantics.specs.Run.{module_run}
use Rattle.vlog_run.specs.Text.{run_text}
use Rattle.fabric_model.specs.declared.options.FabricOptions.{FabricOptions}
use Rattle.fabric_model.specs.Fabric.{Fabric, fabric_with, reading_all}
use Rattle.fabric_model.specs.Steps.{Event, Entry, IsRun}
use Rattle.fabric_model.specs.Unique.{ExactlyOne}
use Rattle.fabric_module.specs.Law.{CutsNoWave}
use Rattle.fabric_module.specs.Matching.{module_event}
use Rattle.pin_file.specs.declared.pin_name.PinName.{PinName}
use Rattle.fabric_model.specs.declared.pin.Pin.{Pin}
use Rattle.pin_file.specs.Faults.{pin_fault_of, ports_of}
use Rattle.pin_file.specs.Packages.{Package, package_of}
use Rattle.port_names.specs.Named.{named_ports, port_pins}
use Rattle.port_names.specs.Matching.{MatchesNamed}
use Rattle.tool_run.specs.Effects.{Delivers, with_beside}
use Rattle.tool_run.specs.Runs.{Outside, Scene}
use Rattle.tool_run.specs.Tasks.{asks_for_help}
use Rattle.tool_inputs.specs.Appended.{AppendsFor, UnderLayout}
use Rattle.tool_inputs.specs.Databases.{database_read}
use Rattle.tool_inputs.specs.Images.{image_read}
use Rattle.design_answers.specs.Lines.{fabric_events, fabric_text}
use Rattle.design_answers.specs.Pins.{database_text, pin_text, texts_without_pins}
use Rattle.design_tools.specs.Vlog.{options_in, vlog_command, vlog_outcome}

-- A text spells a fabric. Its ports have the names of a pin file, if these are given.
pub record SpellsFabric (named : List PinName) (fabric : Fabric) (text : List ℕ) : Type 0 where
  -- it spells exactly one module
  pub one_module : ExactlyOne (IsSpelling text)
  -- the module has the ports of the fabric
  pub ports : one_module.it.ports ≡ named_ports named fabric
  -- the fabric has exactly one run for each list of events
  pub one_run : (events : List Event) → ExactlyOne (IsRun fabric events)
  -- the bound on the waves of an event cuts none
  pub uncut : CutsNoWave fabric
  -- the module runs as the fabric does: at the start and after each event the two have the same values
  pub alike : (events : List Event) (entries : List Entry) → IsRun fabric events entries
      → AllZip (MatchesNamed named fabric) entries (module_run one_module.it (map module_event events))
  -- the lines of the module's run over the events of a text are the lines of the fabric's run
  pub lines : (registers : Bool) (events : List ℕ) (entries : List Entry)
      → IsRun fabric (fabric_events (named_ports named fabric) events) entries
      → run_text one_module.it (events_of one_module.it.ports events) registers ≡ fabric_text registers entries

-- ---- what was appended

-- the texts without the pin file, if there is one for a package
abbrev pub texts_of_design : Option (List ℕ) → List (List ℕ) → List (List ℕ)
texts_of_design None texts = texts
texts_of_design (Some package_name) texts = texts_without_pins texts

-- the package of that name in the database
abbrev pub package_read : List ℕ → List (List ℕ) → Package
package_read package_name texts = package_of package_name (database_text texts)

-- the names that the pin file gives to these pins of a design for the package, if there is one
abbrev pub names_given : Option (List ℕ) → List (List ℕ) → List Pin → List PinName
names_given None texts pins = []
names_given (Some package_name) texts pins = ports_of (package_read package_name texts) (port_pins pins) (pin_text texts)

-- the pin file, if there is one, has no fault
abbrev pub HasNoPinFault : Option (List ℕ) → List (List ℕ) → Type 0
HasNoPinFault None texts = Unit {0}
HasNoPinFault (Some package_name) texts = pin_fault_of (package_read package_name texts) (pin_text texts) ≡ None

-- the fabric of a database and an image with these options. Its LUTs read all of their inputs, whichever the options say.
abbrev pub fabric_meant : FabricOptions → Database → Configuration → Fabric
fabric_meant options db image = fabric_with (reading_all options) db image

-- Bytes spell the fabric of a database and an image with these options. `layout` is the layout file if one is named. The texts are those
-- that were loaded after it: the pin file if a package is given, then the database, then the image, which is read under the layouts.
pub record WritesFabric (options : FabricOptions) (package_name : Option (List ℕ)) (layout : Option (List ℕ)) (texts : List (List ℕ)) (bytes : List ℕ) : Type 0 where
  pub layouts : Layouts
  pub db : Database
  pub image : Configuration
  pub layouts_are : layouts_for layout ≡ Ok layouts
  pub db_is : database_read (get_or (texts_of_design package_name texts) 0 []) ≡ Ok db
  pub image_is : image_read layouts (get_or (texts_of_design package_name texts) 1 []) ≡ Ok image
  pub faultless : HasNoPinFault package_name texts
  pub spells : SpellsFabric (names_given package_name texts (fabric_meant options db image).pins) (fabric_meant options db image) bytes

-- These bytes are the module, and a list of names for its wires, which was made with it, has no fault. So `vlogrun` takes both together, if
-- each is within its limit.
abbrev pub NamesWires : List ℕ → List ℕ → Type 0
NamesWires bytes list = (m : Parts) → IsSpelling bytes m → names_fault_of m list ≡ None

-- the name of the layout file, if the arguments of `icebox_vlog` name one
abbrev pub layout_given : List (List ℕ) → Option (List ℕ)
layout_given args = first_of (codes "layout") (matches_of vlog_command args)

-- the options that the arguments give
abbrev pub options_given : List (List ℕ) → FabricOptions
options_given args = options_in (matches_of vlog_command args)

-- the package that the arguments name
abbrev pub package_given : List (List ℕ) → Option (List ℕ)
package_given args = first_of (codes "package") (matches_of vlog_command args)

-- If a run of `icebox_vlog` with these arguments has status 0, and isn't asked for help, then there are texts of its files and of standard
-- input such that the bytes that it appended spell the fabric of their database and image, with pins of every kind if the arguments ask for
-- them. Each text is within its limit. Where files and input tell their contents, as those in memory do, the texts are these contents; real
-- files tell nothing of them.
abbrev pub PromisesFabric : {F I O E : Type 0} → Outside F I O E → List (List ℕ) → ℕ → Scene F I O E → Scene F I O E → Type 0
PromisesFabric by args status old new =
    status ≡ 0 → asks_for_help args ≡ false
    → AppendsFor by (UnderLayout (layout_given args) (WritesFabric (options_given args) (package_given args))) (vlog_outcome args) old new

-- the file for the list of names, if the arguments name one
abbrev pub list_given : List (List ℕ) → Option (List ℕ)
list_given args = first_of (codes "names") (matches_of vlog_command args)

-- If a run of `icebox_vlog` with these arguments has status 0, and isn't asked for help, then it stored a list of names in the file for it,
-- if the arguments name one, and the list has no fault for the module that it appended to standard output.
abbrev pub PromisesNames : {F I O E : Type 0} → Outside F I O E → List (List ℕ) → ℕ → Scene F I O E → Scene F I O E → Type 0
PromisesNames by args status old new =
    status ≡ 0 → asks_for_help args ≡ false
    → (bytes : List ℕ) × (list : List ℕ)
    × Delivers None bytes (with_beside (by.contents old.files) (list_given args) list) (by.contents new.files) (by.held old.output) (by.held new.output)
    × NamesWires bytes list

-- The text that is written for a database and an image spells their fabric.
use Rattle.std.proofs.Common.{◌≡◌, ℕ, ◌^◌, ◌≤◌, Bool, true, false, List, [], drop, map, refl, subst, sym}
use Rattle.std.specs.Prelude.{Option, Some, None, Result, Ok, Err, get_or, codes, if◌then◌else◌, ◌&&◌, is_some, nat_le, length}
use Rattle.clap.specs.Words.{Row, Text, first_of, matches_of}
use Rattle.layout_file.specs.declared.layouts.Layouts.{Layouts}
use Rattle.tool_inputs.specs.Appended.{UnderLayout}
use Rattle.tool_inputs.specs.Layouts.{answer_under, layouts_for}
use Rattle.tool_inputs.specs.DesignInput.{answer_of_both, answer_to_both}
use Rattle.ice_image.specs.Configuration.{Configuration}
use Rattle.asc_text.specs.declared.file.Symbol.{Symbol}
use Rattle.chipdb_reader.specs.Database.{Database}
use Rattle.chipdb_reader.specs.Fit.{IsFit}
use Rattle.vlog_module.specs.Names.{is_name, reserved_words, IsName}
use Rattle.vlog_module.specs.Parts.{Parts}
use Rattle.vlog_module.specs.WellFormed.{IsModule}
use Rattle.fabric_model.specs.declared.pin.Pin.{Pin}
use Rattle.fabric_model.specs.Steps.{IsRun}
use Rattle.pin_file.specs.declared.pin_name.PinName.{PinName}
use Rattle.pin_file.specs.declared.fault.PinFileFault.{PinFileFault}
use Rattle.pin_file.specs.Faults.{pin_fault_of, ports_of}
use Rattle.pin_file.specs.Packages.{Package, package_of}
use Rattle.port_names.specs.Named.{AreAccepted, named_input, named_module, named_output, named_ports, port_pins}
use Rattle.port_names.specs.NamedLaw.{RunsNamed}
use Rattle.port_names.proofs.IsFabric.{named-is-fabric}
use Rattle.vlog_forms.specs.Items.{IsSpelling}
use Rattle.vlog_forms.specs.Printed.{printed}
use Rattle.vlog_forms.proofs.PrintedTokens.{printed-spells}
use Rattle.vlog_forms.proofs.Spelled.{one-module}
use Rattle.text_lines.specs.Lines.{lines_of}
use Rattle.index_search.specs.Places.{first_below}
use Rattle.wire_names.specs.Faults.{names_fault_of}
use Rattle.wire_names.proofs.Free.{free-names-read}
use Rattle.symbol_names.specs.Symbols.{symbol_names, wanted_name}
use Rattle.fabric_model.specs.declared.options.FabricOptions.{FabricOptions}
use Rattle.fabric_model.specs.Fabric.{Fabric, fabric_with}
use Rattle.graph_order.specs.Wiring.{IsWriteOrder}
use Rattle.fabric_model.specs.Wiring.{clocked_wiring}
use Rattle.fabric_model.specs.Faults.{Fault, design_fault}
use Rattle.fabric_model.proofs.Within.{fabric-within}
use Rattle.fabric_model.proofs.Taken.{design-taken, clocked-order}
use Rattle.fabric_model.proofs.Alike.{design-run}
use Rattle.fabric_model.proofs.Uncut.{design-uncut}
use Rattle.fabric_module.specs.Written.{module_of}
use Rattle.fabric_module.proofs.Design.{design-is-module, design-well_formed}
use Rattle.tool_inputs.proofs.CommandLines.{helped-no}
use Rattle.tool_inputs.specs.Databases.{database_read}
use Rattle.tool_inputs.specs.Images.{image_read}
use Rattle.tool_run.specs.Effects.{Delivers, with_beside}
use Rattle.tool_run.specs.Runs.{Does, Outside, Scene}
use Rattle.tool_run.specs.Tasks.{Answer, Both, Task, layout_first, usage_error}
use Rattle.tool_run.proofs.Same.{Does-same}
use Rattle.tool_inputs.specs.Commands.{is_taken}
use Rattle.tool_inputs.specs.Outcomes.{asked}
use Rattle.design_tools.specs.declared.request.TheConstants.{ICEBOX_VLOG_HELP}
use Rattle.design_tools.specs.Names.{name_given}
use Rattle.design_answers.specs.Lines.{fabric_events}
use Rattle.design_answers.specs.Order.{write_order}
use Rattle.design_answers.specs.Pins.{database_text, pin_text, texts_without_pins}
use Rattle.design_answers.specs.PinRequests.{Named, named_by, pins_in}
use Rattle.design_tools.specs.Vlog.{icebox_vlog, list_text, listed, module_with_names, named_answer, named_where, named_with, options_in, written, written_module, written_named, written_with, vlog_answer, vlog_command, vlog_name, vlog_outcome, vlog_task_by, vlog_task_of, vlog_usage}
use Rattle.design_tools.specs.Fabric.{HasNoPinFault, NamesWires, PromisesFabric, PromisesNames, SpellsFabric, WritesFabric, fabric_meant, layout_given, list_given, names_given, options_given, package_given, texts_of_design}
use Rattle.tool_inputs.proofs.Appended.{first_gives, helped-kept}
use Rattle.tool_inputs.proofs.Databases.{read-few, read-fit}
use Rattle.design_tools.proofs.FewNets.{few-nets}
use Rattle.design_answers.proofs.Lines.{run-shown}
use Rattle.design_answers.proofs.Order.{order-is}

-- ---- the module

-- if there is no fault, the order that the function gives is the write order
ordered : (options : FabricOptions) (db : Database) (image : Configuration) → IsFit db → design_fault options db image ≡ None
    → IsWriteOrder (clocked_wiring (fabric_with options db image)) (write_order (clocked_wiring (fabric_with options db image)))
ordered options db image fit none =
    let fabric = fabric_with options db image in
    let wiring = clocked_wiring fabric in
    let order = clocked-order image.layout.device fabric (design-taken options db image none).fabric (fabric-within db image fit options) in
    subst (IsWriteOrder wiring) (order-is wiring order.it order.is) order.is

module _ (options : FabricOptions) (name : List ℕ) (is_name : IsName name) (db : Database) (image : Configuration) (fit : IsFit db) (few : (fabric_with options db image).nets ≤ 2 ^ 64)
    (none : design_fault options db image ≡ None) where
  abbrev order : List ℕ
  order = write_order (clocked_wiring (fabric_with options db image))

  abbrev meant : Fabric
  meant = fabric_meant options db image

  order-right : IsWriteOrder (clocked_wiring (fabric_with options db image)) order
  order-right = ordered options db image fit none

  -- a module that runs as the fabric
  spelled : (named : List PinName) (m : Parts) → IsModule m → RunsNamed named options db image m → SpellsFabric named meant (printed m)
  spelled named m whole runs =
      let spells = printed-spells m whole in
      record {
        one_module = record { it = m; is = spells; only = λ other also. one-module (printed m) other m also spells };
        ports = runs.ports;
        one_run = runs.one_run;
        uncut = runs.uncut;
        alike = runs.alike;
        lines = λ registers events entries run.
            run-shown (named_input named) (named_output named) meant m registers events entries
            (runs.alike (fabric_events m.ports events) entries
            (subst (λ ports. IsRun meant (fabric_events ports events) entries) (sym runs.ports) run));
      }

  own-runs : RunsNamed [] options db image (module_of (fabric_with options db image) order name)
  unfolding module_of fabric_with named_ports
  own-runs = record {
    ports = refl;
    one_run = λ events. design-run options db image fit none events;
    uncut = design-uncut options db image fit none;
    alike = λ events entries run. design-is-module options db image fit few none order order-right name events entries run;
  }

  own-whole : IsModule (written_module options name db image)
  unfolding written_module
  own-whole = design-well_formed options db image fit few none order order-right name is_name

  own-spelled : SpellsFabric [] meant (printed (written_module options name db image))
  unfolding written_module
  own-spelled = spelled [] (module_of (fabric_with options db image) order name) own-whole own-runs

  named-law : (named : List PinName) → AreAccepted meant.pins named
      → IsModule (module_with_names named options name db image) × RunsNamed named options db image (module_with_names named options name db image)
  unfolding module_with_names
  named-law named accepted = named-is-fabric named options db image fit few none accepted order name order-right is_name

  named-spelled : (named : List PinName) → AreAccepted meant.pins named → SpellsFabric named meant (printed (module_with_names named options name db image))
  named-spelled named accepted =
      let law = named-law named accepted in
      spelled named (module_with_names named options name db image) law.0 law.1

-- ---- the list of names

-- an empty list has no fault
empty-named : (m : Parts) → names_fault_of m [] ≡ None
unfolding names_fault_of lines_of first_below
empty-named m = refl

-- the list that is made with a module has no fault for it
list-named : (symbols : Option (List Symbol)) (joins : List (ℕ × ℕ)) (m : Parts) → IsModule m → NamesWires (printed m) (list_text symbols joins m)
unfolding symbol_names
list-named None joins m whole other spells = empty-named other
list-named (Some symbols) joins m whole other spells =
    subst (λ one. names_fault_of one (list_text (Some symbols) joins m) ≡ None) (one-module (printed m) m other (printed-spells m whole) spells)
    (free-names-read m (map (wanted_name joins) symbols) whole).faultless

-- ---- the answer

-- bytes spell a fabric with the names of a pin file, and the list has no fault for their module
record IsMade (named : List PinName) (fabric : Fabric) (bytes beside : List ℕ) : Type 0 where
  pub spells : SpellsFabric named fabric bytes
  pub wires : NamesWires bytes beside

-- what the bytes are, by the package of a pin file if there is one
IsWritten : FabricOptions → Option (List ℕ) → List (List ℕ) → List ℕ → List ℕ → Database → Configuration → Type 0
IsWritten options package_name texts bytes beside db image =
    HasNoPinFault package_name texts × IsMade (names_given package_name texts (fabric_meant options db image).pins) (fabric_meant options db image) bytes beside

-- the two texts of a module that spells a fabric
made-of : (named : List PinName) (fabric : Fabric) (symbols : Option (List Symbol)) (joins : List (ℕ × ℕ)) (m : Parts) (bytes beside : List ℕ)
    → SpellsFabric named fabric (printed m) → IsModule m → Both (printed m) (list_text symbols joins m) ≡ Both bytes beside → IsMade named fabric bytes beside
made-of named fabric symbols joins m bytes beside spells whole done =
    let first : printed m ≡ bytes = cc in
    let second : list_text symbols joins m ≡ beside = cc in
    let list : NamesWires (printed m) (list_text symbols joins m) = list-named symbols joins m whole in
    record {
      spells = subst (SpellsFabric named fabric) first spells;
      wires = λ other other_spells. subst (λ text. names_fault_of other text ≡ None) second (list other (subst (λ text. IsSpelling text other) (sym first) other_spells));
    }

own-done : (options : FabricOptions) (name : List ℕ) → IsName name → (symbols : Option (List Symbol)) (db : Database) (image : Configuration) → IsFit db → (fabric_with options db image).nets ≤ 2 ^ 64
    → (bytes beside : List ℕ) (fault : Option Fault) → design_fault options db image ≡ fault → written_with options name symbols db image fault ≡ Both bytes beside
    → IsMade [] (fabric_meant options db image) bytes beside
own-done options name is_name symbols db image fit few bytes beside (Some fault) is done = absurd cc
own-done options name is_name symbols db image fit few bytes beside None is done =
    made-of [] (fabric_meant options db image) symbols (fabric_with options db image).joins (written_module options name db image) bytes beside
    (own-spelled options name is_name db image fit few is) (own-whole options name is_name db image fit few is) done

-- the pins are the same whichever inputs LUTs read
pins-same : (options : FabricOptions) (db : Database) (image : Configuration) → (fabric_with options db image).pins ≡ (fabric_meant options db image).pins
unfolding fabric_with
pins-same options db image = refl

module _ (options : FabricOptions) (name : List ℕ) (is_name : IsName name) (symbols : Option (List Symbol)) (db : Database) (image : Configuration) (fit : IsFit db)
    (few : (fabric_with options db image).nets ≤ 2 ^ 64) (chosen : Package) (file bytes beside : List ℕ) where
  -- the names that the pin file gives to the pins of a fabric
  abbrev given : List Pin → List PinName
  given pins = ports_of chosen (port_pins pins) file

  -- the pin file has no fault, and bytes spell the fabric by its names
  abbrev IsNamed : Type 0
  IsNamed = (pin_fault_of chosen file ≡ None) × IsMade (given (fabric_meant options db image).pins) (fabric_meant options db image) bytes beside

  accepted-done : (fault : Option PinFileFault) → design_fault options db image ≡ None → pin_fault_of chosen file ≡ fault
      → named_with options name symbols (given (fabric_meant options db image).pins) db image fault ≡ Both bytes beside → IsNamed
  accepted-done (Some fault) none is done = absurd cc
  accepted-done None none is done =
      let names = given (fabric_meant options db image).pins in
      let accepted : AreAccepted (fabric_meant options db image).pins names = record { chosen = chosen; text = file; faultless = is; are = refl } in (
        is,
        made-of names (fabric_meant options db image) symbols (fabric_with options db image).joins (module_with_names names options name db image) bytes beside
            (named-spelled options name is_name db image fit few none names accepted) (named-law options name is_name db image fit few none names accepted).0 done,
      )

  named-done : (fault : Option Fault) → design_fault options db image ≡ fault → named_where options name symbols chosen file db image fault ≡ Both bytes beside → IsNamed
  named-done (Some fault) is done = absurd cc
  named-done None is done =
      accepted-done (pin_fault_of chosen file) is refl
      (subst (λ pins. named_with options name symbols (given pins) db image (pin_fault_of chosen file) ≡ Both bytes beside) (pins-same options db image) done)

module _ (options : FabricOptions) (package_name layout : Option (List ℕ)) (all : List (List ℕ)) (bytes beside : List ℕ) (answer : Database → Configuration → Answer)
    (shown : (db : Database) (image : Configuration) → IsFit db → (fabric_with options db image).nets ≤ 2 ^ 64 → answer db image ≡ Both bytes beside → IsWritten options package_name all bytes beside db image) where
  abbrev texts : List (List ℕ)
  texts = texts_of_design package_name all

  abbrev db_text : List ℕ
  db_text = get_or texts 0 []

  abbrev image_text : List ℕ
  image_text = get_or texts 1 []

  done-of : (layouts : Layouts) (db : Result Database (List ℕ)) (image : Result Configuration (List ℕ))
      → layouts_for layout ≡ Ok layouts → database_read db_text ≡ db → image_read layouts image_text ≡ image → answer_of_both db image answer ≡ Both bytes beside → WritesFabric options package_name layout all bytes × NamesWires bytes beside
  unfolding IsWritten
  done-of layouts (Err text) image layouts_are db_is image_is done = absurd cc
  done-of layouts (Ok db) (Err text) layouts_are db_is image_is done = absurd cc
  done-of layouts (Ok db) (Ok image) layouts_are db_is image_is done =
      let found = shown db image (read-fit db_text db db_is) (few-nets options db image (read-few db_text db db_is)) done in (
        record {
          layouts = layouts;
          db = db;
          image = image;
          layouts_are = layouts_are;
          db_is = db_is;
          image_is = image_is;
          faultless = found.0;
          spells = found.1.spells;
        },
        found.1.wires,
      )

  done-under : (read : Result Layouts (List ℕ)) → layouts_for layout ≡ read → answer_under read (answer_to_both answer db_text image_text) ≡ Both bytes beside → WritesFabric options package_name layout all bytes × NamesWires bytes beside
  done-under (Ok layouts) are done = done-of layouts (database_read db_text) (image_read layouts image_text) are refl refl done
  done-under (Err text) are done = absurd cc

-- what is made without a pin file
plain-writes : (options : FabricOptions) (name : List ℕ) → IsName name → (has_list : Bool) (layout : Option (List ℕ)) (texts : List (List ℕ)) (bytes beside : List ℕ)
    → vlog_answer options layout name has_list texts ≡ Both bytes beside → WritesFabric options None layout texts bytes × NamesWires bytes beside
unfolding IsWritten
plain-writes options name is_name has_list layout texts bytes beside done =
    let symbols : Option (List Symbol) = listed has_list (get_or texts 1 []) in
    done-under options None layout texts bytes beside (written options name symbols)
    (λ db image fit few done. (tt, own-done options name is_name symbols db image fit few bytes beside (design_fault options db image) refl done))
    (layouts_for layout) refl done

-- and with one
named-writes : (options : FabricOptions) (name package_name : List ℕ) → IsName name → (has_list : Bool) (layout : Option (List ℕ)) (texts : List (List ℕ)) (bytes beside : List ℕ)
    → named_answer options layout name package_name has_list texts ≡ Both bytes beside → WritesFabric options (Some package_name) layout texts bytes × NamesWires bytes beside
unfolding IsWritten
named-writes options name package_name is_name has_list layout texts bytes beside done =
    let chosen = package_of package_name (database_text texts) in
    let symbols : Option (List Symbol) = listed has_list (get_or (texts_without_pins texts) 1 []) in
    done-under options (Some package_name) layout texts bytes beside (written_named options name symbols chosen (pin_text texts))
    (λ db image fit few done. named-done options name is_name symbols db image fit few chosen (pin_text texts) bytes beside (design_fault options db image) refl done)
    (layouts_for layout) refl done

-- ---- the arguments

-- a name that is taken is a name
name-by : (text name : Text) (short takes : Bool) → is_name text ≡ takes → (if short && takes then Some text else None) ≡ Some name → IsName name
name-by text name true true is taken = let same : text ≡ name = cc in subst IsName same is
name-by text name true false is taken = absurd cc
name-by text name false takes is taken = absurd cc

given-name : (given : Option Text) (name : Text) → name_given given ≡ Some name → IsName name
unfolding is_name reserved_words
given-name None name is = let same : codes "chip" ≡ name = cc in subst IsName same refl
given-name (Some text) name is = name-by text name (nat_le (length text) 64) (is_name text) refl is

-- what a task makes of texts, the first of which is a layout file if one is named, and where it stores the list of names
record Writes (options : FabricOptions) (package_name names layout : Option Text) (task : Task) (texts : List (List ℕ)) (bytes beside : List ℕ) : Type 0 where
  pub fabric : UnderLayout layout (WritesFabric options package_name) texts bytes
  pub wires : NamesWires bytes beside
  pub file : task.beside ≡ names

abbrev TaskWrites : FabricOptions → Option Text → Option Text → Option Text → Task → Type 0
TaskWrites options package_name names layout task =
    (texts : List (List ℕ)) (bytes beside : List ℕ) → task.answer texts ≡ Both bytes beside → Writes options package_name names layout task texts bytes beside

-- the list of names has no fault for what an answer makes of all texts
first-names : (layout : Option (List ℕ)) (answer : Option (List ℕ) → List (List ℕ) → Answer)
    → ((file : Option (List ℕ)) (texts : List (List ℕ)) (bytes beside : List ℕ) → answer file texts ≡ Both bytes beside → NamesWires bytes beside)
    → (texts : List (List ℕ)) (bytes beside : List ℕ) → layout_first layout answer texts ≡ Both bytes beside → NamesWires bytes beside
first-names None answer named texts bytes beside done = named None texts bytes beside done
first-names (Some file) answer named texts bytes beside done = named (Some (get_or texts 0 [])) (drop 1 texts) bytes beside done

task-of : (options : FabricOptions) (name file package_name names layout db image : Option Text) → ((one : Text) → name ≡ Some one → IsName one)
    → TaskWrites options package_name names layout (vlog_task_of options name (named_by file package_name) names layout db image)
task-of options (Some name) None None names layout (Some db) image is_name texts bytes beside done =
    let answer : Option (List ℕ) → List (List ℕ) → Answer = λ given all. vlog_answer options given name (is_some names) all in
    record {
      fabric = first_gives layout answer (WritesFabric options None)
          (λ given all made more done. (plain-writes options name (is_name name refl) (is_some names) given all made more done).0) texts bytes beside done;
      wires = first-names layout answer (λ given all made more done. (plain-writes options name (is_name name refl) (is_some names) given all made more done).1) texts bytes beside done;
      file = refl;
    }
task-of options (Some name) (Some file) (Some package_name) names layout (Some db) image is_name texts bytes beside done =
    let answer : Option (List ℕ) → List (List ℕ) → Answer = λ given all. named_answer options given name package_name (is_some names) all in
    record {
      fabric = first_gives layout answer (WritesFabric options (Some package_name))
          (λ given all made more done. (named-writes options name package_name (is_name name refl) (is_some names) given all made more done).0) texts bytes beside done;
      wires = first-names layout answer
          (λ given all made more done. (named-writes options name package_name (is_name name refl) (is_some names) given all made more done).1) texts bytes beside done;
      file = refl;
    }
task-of options (Some name) (Some file) None names layout db image is_name texts bytes beside done = absurd cc
task-of options (Some name) None (Some package_name) names layout db image is_name texts bytes beside done = absurd cc
task-of options (Some name) None None names layout None image is_name texts bytes beside done = absurd cc
task-of options (Some name) (Some file) (Some package_name) names layout None image is_name texts bytes beside done = absurd cc
task-of options None file package_name names layout db image is_name texts bytes beside done = absurd cc

task-writes : (args : List Text) → TaskWrites (options_given args) (package_given args) (list_given args) (layout_given args) (asked icebox_vlog args)
unfolding asked
task-writes args = by_case (is_taken vlog_command args)
  where
    rows : List Row
    rows = matches_of vlog_command args

    by_case : (taken : Bool) → TaskWrites (options_given args) (package_given args) (list_given args) (layout_given args) (if taken then vlog_task_by rows else usage_error vlog_name vlog_usage)
    by_case true =
        task-of (options_in rows) (name_given (first_of (codes "name") rows)) (first_of (codes "pins") rows) (first_of (codes "package") rows)
        (first_of (codes "names") rows) (first_of (codes "layout") rows) (first_of (codes "db") rows) (first_of (codes "image") rows)
        (given-name (first_of (codes "name") rows))
    by_case false = λ texts bytes beside done. absurd cc

-- ---- a run

target-of : (options : FabricOptions) (name : Option Text) (pins : Option (Option Named)) (names layout db image : Option Text) → (vlog_task_of options name pins names layout db image).target ≡ None
target-of options (Some name) (Some (Some pins)) names layout (Some db) image = refl
target-of options (Some name) (Some None) names layout (Some db) image = refl
target-of options (Some name) (Some pins) names layout None image = refl
target-of options (Some name) None names layout db image = refl
target-of options None pins names layout db image = refl

-- the module goes to standard output
task-target : (args : List Text) → (asked icebox_vlog args).target ≡ None
unfolding asked
task-target args = by_case (is_taken vlog_command args)
  where
    rows : List Row
    rows = matches_of vlog_command args

    by_case : (taken : Bool) → (if taken then vlog_task_by rows else usage_error vlog_name vlog_usage).target ≡ None
    by_case true =
        target-of (options_in rows) (name_given (first_of (codes "name") rows)) (pins_in rows) (first_of (codes "names") rows)
        (first_of (codes "layout") rows) (first_of (codes "db") rows) (first_of (codes "image") rows)
    by_case false = refl

pub promise-kept : {F I O E : Type 0} (by : Outside F I O E) (args : List Text) (status : ℕ) (old new : Scene F I O E) → Does by (vlog_outcome args) status old new
    → PromisesFabric by args status old new
promise-kept by args status old new does done asks =
    let same : asked icebox_vlog args ≡ vlog_outcome args = helped-no vlog_name ICEBOX_VLOG_HELP.now args (asked icebox_vlog args) asks in
    helped-kept (UnderLayout (layout_given args) (WritesFabric (options_given args) (package_given args))) by (asked icebox_vlog args) (vlog_outcome args) status old new same
    (λ texts bytes beside made. (task-writes args texts bytes beside made).fabric) (task-target args) does done

pub names-kept : {F I O E : Type 0} (by : Outside F I O E) (args : List Text) (status : ℕ) (old new : Scene F I O E) → Does by (vlog_outcome args) status old new
    → PromisesNames by args status old new
names-kept by args status old new does done asks =
    let task : Task = asked icebox_vlog args in
    let same : task ≡ vlog_outcome args = helped-no vlog_name ICEBOX_VLOG_HELP.now args task asks in
    let made = (Does-same by (vlog_outcome args) task status old new (sym same) does).whole done in
    let writes : Writes (options_given args) (package_given args) (list_given args) (layout_given args) task made.4.0 made.0 made.1 = task-writes args made.4.0 made.0 made.1 made.4.2 in
    let goes : Option Text → Option Text → Type 0 = λ target file.
    Delivers target made.0 (with_beside (by.contents old.files) file made.1) (by.contents new.files) (by.held old.output) (by.held new.output) in (
      made.0,
      made.1,
      subst (λ target. goes target (list_given args)) (task-target args) (subst (goes task.target) writes.file made.2),
      writes.wires,
    )

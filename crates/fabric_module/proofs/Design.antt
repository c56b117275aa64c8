-- Where a database and an image aren't refused, the module that is written for them is their fabric, and it is well-formed.
use Rattle.std.proofs.Common.{◌≡◌, ℕ, ◌^◌, ◌≤◌, Bool, List, [], ◌∷◌, ◌++◌, length, map, refl, sym, ap, ◌∙◌, subst}
use Rattle.std.specs.Prelude.{All, None}
use Rattle.std.specs.List.{AllZip}
use Rattle.std.proofs.lemmas.List.Elements.{All-weaker}
use Rattle.bit_plane.specs.BitList.{word_of}
use Rattle.ice_image.specs.Configuration.{Configuration}
use Rattle.chipdb_reader.specs.Database.{Database}
use Rattle.chipdb_reader.specs.Fit.{IsFit}
use Rattle.vlog_module.specs.Names.{IsName}
use Rattle.vlog_module.specs.WellFormed.{IsModule}
use Rattle.vlog_semantics.specs.Entries.{Entry as ModuleEntry}
use Rattle.vlog_semantics.specs.Run.{module_run}
use Rattle.fabric_model.specs.declared.pin.GlobalNet.{GlobalNet}
use Rattle.fabric_model.specs.declared.register.Register.{Register}
use Rattle.fabric_model.specs.Rams.{rams_of}
use Rattle.fabric_model.specs.Outputs.{outputs_of}
use Rattle.fabric_model.specs.Pins.{pins_of}
use Rattle.fabric_model.specs.Fabric.{inputs_of, fabric_with, reading_all}
use Rattle.fabric_model.specs.declared.options.FabricOptions.{FabricOptions}
use Rattle.fabric_model.specs.Steps.{Event, Entry, IsRun}
use Rattle.graph_order.specs.Wiring.{IsWriteOrder}
use Rattle.fabric_model.specs.Wiring.{clocked_wiring}
use Rattle.fabric_model.specs.Faults.{design_fault}
use Rattle.fabric_model.proofs.Within.{fabric-in, fabric-within}
use Rattle.fabric_model.proofs.Signals.{registers-signals}
use Rattle.fabric_model.proofs.Taken.{design-taken}
use Rattle.fabric_model.proofs.Runs.{fabric-placed}
use Rattle.fabric_model.proofs.Paired.{pairs-give}
use Rattle.fabric_model.proofs.Alike.{RegistersAlike, register-field, registers-alike, outputs-with, driven-with, run-with}
use Rattle.fabric_module.specs.Names.{three_numbers, input_port_name, output_name, register_prefix, register_number, register_name, read_name, memory_name}
use Rattle.fabric_module.specs.Written.{module_of}
use Rattle.fabric_module.specs.Matching.{HasValues, HasWires, Matches, module_event}
use Rattle.fabric_module.proofs.Settled.{IsWritable}
use Rattle.fabric_module.proofs.Beginning.{IsPorted}
use Rattle.fabric_module.proofs.Configured.{IsPadIn, ports-apart, registers-apart, rams-apart, read-places, memory-places, fabric-started, drives-there}
use Rattle.fabric_module.proofs.Pads.{pads-there}
use Rattle.fabric_module.proofs.Plls.{with_plls-apart}
use Rattle.fabric_module.proofs.Headline.{module-is-fabric}
use Rattle.fabric_module.proofs.Whole.{module-well_formed}
use Rattle.fabric_module.proofs.Shapely.{fabric-shapely}

module _ (options : FabricOptions) (db : Database) (image : Configuration) (fit : IsFit db) (few : (fabric_with options db image).nets ≤ 2 ^ 64) (none : design_fault options db image ≡ None) where
  pads : All (λ (global : GlobalNet). IsPadIn (fabric_with options db image).pins (fabric_with options db image).plls global.from) (fabric_with options db image).globals
  unfolding fabric_with
  pads = pads-there options db image fit (design-taken options db image none)

  -- the fabric can be written
  pub fabric-writable : IsWritable (fabric_with options db image)
  unfolding fabric_with
  fabric-writable = record {
    few = few;
    places = drives-there (fabric_with options db image) (fabric-in db image fit options) pads
        (All-weaker IsPorted (λ ram. length ram.rdata ≡ 16) (λ ram ported. ported.read) (rams_of db image) (fabric-started db image options).each_port);
    tables = registers-signals db image fit options;
    ports = with_plls-apart db image options.all_pins fit (pins_of options.all_pins db image) (ports-apart db image options.all_pins);
    registers = registers-apart db image options;
    reads = rams-apart db image read_name read-places;
    memories = rams-apart db image memory_name memory-places;
  }

  -- For each list of events, the fabric's run and the run of the written module match at the start and after each event.
  with-is-module : (order : List ℕ) → IsWriteOrder (clocked_wiring (fabric_with options db image)) order → (name : List ℕ) (events : List Event) (entries : List Entry)
      → IsRun (fabric_with options db image) events entries
      → AllZip (Matches (fabric_with options db image)) entries (module_run (module_of (fabric_with options db image) order name) (map module_event events))
  with-is-module order ordered name =
      module-is-fabric image.layout.device (fabric_with options db image) (design-taken options db image none).fabric (fabric-placed db image options) (fabric-within db image fit options)
      fabric-writable (fabric-started db image options) order ordered name

  -- ---- the same of the fabric whose LUTs read all inputs

  same-inputs : map input_port_name (inputs_of (fabric_with options db image)) ≡ map input_port_name (inputs_of (fabric_with (reading_all options) db image))
  unfolding fabric_with
  same-inputs = refl

  same-outputs : map output_name (outputs_of (fabric_with options db image)) ≡ map output_name (outputs_of (fabric_with (reading_all options) db image))
  same-outputs =
      ap (map output_name) (outputs-with options db image)

  register-named : (one two : Register) → RegistersAlike one two → register_name one ≡ register_name two
  unfolding register_name
  register-named one two alike = register-field one two alike (λ register. register_prefix register.kind ++ three_numbers register.x register.y (register_number register.kind)) refl

  same-registers : map register_name (fabric_with options db image).registers ≡ map register_name (fabric_with (reading_all options) db image).registers
  same-registers =
      pairs-give RegistersAlike register_name register_name register-named (fabric_with options db image).registers (fabric_with (reading_all options) db image).registers (registers-alike options db image)

  same-rams : (fabric_with options db image).rams ≡ (fabric_with (reading_all options) db image).rams
  unfolding fabric_with
  same-rams = refl

  wires-all : (v : List Bool) (wires : List (List ℕ × Bool)) → HasWires (fabric_with options db image) v wires → HasWires (fabric_with (reading_all options) db image) v wires
  wires-all v wires has = record {
    each = λ class driven. has.each class (driven-with options db image class ∙ driven);
    only = λ wire there.
        let found = has.only wire there in
        (found.0, sym (driven-with options db image found.0) ∙ found.1, found.2, found.3);
  }

  matches-all : (entry : Entry) (other : ModuleEntry) → Matches (fabric_with options db image) entry other → Matches (fabric_with (reading_all options) db image) entry other
  matches-all entry other matches = record {
    inputs = subst (λ names. HasValues other.inputs names entry.pins) same-inputs matches.inputs;
    outputs = subst (λ names. HasValues other.outputs names entry.outputs) same-outputs matches.outputs;
    registers = subst (λ names. HasValues other.registers names entry.state.bits) same-registers matches.registers;
    words = subst (λ rams. HasValues other.words (map read_name rams) (map word_of entry.state.reads)) same-rams matches.words;
    memories = subst (λ rams. HasValues other.memories (map memory_name rams) (map (map word_of) entry.state.words)) same-rams matches.memories;
    wires = wires-all entry.v other.wires matches.wires;
  }

  each-matches : (entries : List Entry) (others : List ModuleEntry) → AllZip (Matches (fabric_with options db image)) entries others → AllZip (Matches (fabric_with (reading_all options) db image)) entries others
  each-matches [] [] match = tt
  each-matches [] (other ∷ others) match = absurd match
  each-matches (entry ∷ entries) [] match = absurd match
  each-matches (entry ∷ entries) (other ∷ others) match = (matches-all entry other match.0, each-matches entries others match.1)

  pub design-is-module : (order : List ℕ) → IsWriteOrder (clocked_wiring (fabric_with options db image)) order → (name : List ℕ) (events : List Event) (entries : List Entry)
      → IsRun (fabric_with (reading_all options) db image) events entries
      → AllZip (Matches (fabric_with (reading_all options) db image)) entries (module_run (module_of (fabric_with options db image) order name) (map module_event events))
  design-is-module order ordered name events entries run =
      each-matches entries (module_run (module_of (fabric_with options db image) order name) (map module_event events))
      (with-is-module order ordered name events entries (run-with options db image events entries run))

  -- The written module is well-formed.
  pub design-well_formed : (order : List ℕ) → IsWriteOrder (clocked_wiring (fabric_with options db image)) order → (name : List ℕ) → IsName name
      → IsModule (module_of (fabric_with options db image) order name)
  design-well_formed order ordered =
      module-well_formed (fabric_with options db image) (fabric-within db image fit options) fabric-writable (fabric-started db image options) (fabric-shapely db image options fit) order ordered

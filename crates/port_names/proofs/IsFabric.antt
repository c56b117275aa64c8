-- The module with the names of a pin file is the fabric.
use Rattle.std.proofs.Common.{◌≡◌, ℕ, ◌^◌, ◌≤◌, List, [], ◌∷◌, ◌++◌, map, refl, sym, subst}
use Rattle.std.specs.Prelude.{All, None, flat_map}
use Rattle.std.specs.List.{AllZip}
use Rattle.ice_image.specs.Configuration.{Configuration}
use Rattle.chipdb_reader.specs.Database.{Database}
use Rattle.chipdb_reader.specs.Fit.{IsFit}
use Rattle.vlog_module.specs.Names.{IsName}
use Rattle.vlog_module.specs.WellFormed.{IsModule}
use Rattle.vlog_semantics.specs.Run.{module_run}
use Rattle.fabric_model.specs.declared.options.FabricOptions.{FabricOptions}
use Rattle.fabric_model.specs.declared.pin.Pin.{Pin}
use Rattle.fabric_model.specs.InputPorts.{pll_input}
use Rattle.fabric_model.specs.Fabric.{numbered, fabric_with, reading_all}
use Rattle.fabric_model.specs.Steps.{Event}
use Rattle.graph_order.specs.Wiring.{IsWriteOrder}
use Rattle.fabric_model.specs.Wiring.{clocked_wiring}
use Rattle.fabric_model.specs.Faults.{design_fault}
use Rattle.fabric_model.specs.Pins.{is_port, pin_places, pin_with, port_at, pins_of}
use Rattle.fabric_model.proofs.Apart.{AreApart, All-every}
use Rattle.fabric_model.proofs.Within.{All-flat_map, All-single, if-when}
use Rattle.fabric_module.specs.Written.{input_port, pin_ports, module_of}
use Rattle.fabric_module.specs.Matching.{module_event}
use Rattle.fabric_module.specs.Law.{RunsAlike}
use Rattle.fabric_module.proofs.IsFabric.{module-is-fabric}
use Rattle.pin_file.specs.declared.pin_name.PinName.{PinName}
use Rattle.pin_file.specs.PortNames.{AreSafe}
use Rattle.pin_file.proofs.SafeNames.{safe-ports}
use Rattle.port_names.specs.Renamed.{entry_renamed, new_name, renamed_port}
use Rattle.port_names.specs.Fresh.{IsFresh}
use Rattle.port_names.specs.Law.{SameState, RunsRenamed}
use Rattle.port_names.proofs.Laws.{renaming-keeps-runs}
use Rattle.port_names.specs.Named.{AreAccepted, named_ports, port_pins, port_renaming, named_module}
use Rattle.port_names.specs.Matching.{MatchesNamed}
use Rattle.port_names.specs.NamedLaw.{NamedIsFabric, RunsNamed}
use Rattle.port_names.proofs.Lists.{PartsDiffer}
use Rattle.port_names.proofs.Fresh.{IsPort, PortsDiffer, pins-differ, is-fresh, are-names, only-ports}
use Rattle.port_names.proofs.Shown.{each-named, shown-ports}

module _ (options : FabricOptions) (db : Database) (image : Configuration) (order name : List ℕ) (whole : IsModule (module_of (fabric_with options db image) order name))
    (named : List PinName) where
  same-pins : (fabric_with options db image).pins ≡ (fabric_with (reading_all options) db image).pins
  unfolding fabric_with
  same-pins = refl

  same-plls : (fabric_with options db image).plls ≡ (fabric_with (reading_all options) db image).plls
  unfolding fabric_with
  same-plls = refl

  -- all pins are ports
  ported : All IsPort (fabric_with options db image).pins
  unfolding fabric_with pins_of
  ported =
      All-flat_map IsPort (port_at options.all_pins db image) (numbered (pin_places image.layout.device))
      (All-every (λ place. All IsPort (port_at options.all_pins db image place))
      (λ place.
      let pin = pin_with options.all_pins db image place.0 place.1.x place.1.y place.1.n in
      if-when IsPort (is_port pin) (pin ∷ []) (λ is. All-single IsPort pin is)) (numbered (pin_places image.layout.device)))

  ported-all : All IsPort (fabric_with (reading_all options) db image).pins
  ported-all = subst (All IsPort) same-pins ported

  module _ (safe : AreSafe (port_pins (fabric_with (reading_all options) db image).pins) named) where
    safe-pins : AreSafe (port_pins (fabric_with options db image).pins) named
    safe-pins = subst (λ pins. AreSafe (port_pins pins) named) (sym same-pins) safe

    -- the renaming is fresh for the module
    fresh : IsFresh (port_renaming named (fabric_with options db image).pins) (module_of (fabric_with options db image) order name)
    fresh = is-fresh (fabric_with options db image) ported order name whole named safe-pins

    module _ (alike : RunsAlike options db image order name) where
      kept : RunsRenamed (port_renaming named (fabric_with options db image).pins) (module_of (fabric_with options db image) order name)
      kept = renaming-keeps-runs (port_renaming named (fabric_with options db image).pins) (module_of (fabric_with options db image) order name) whole fresh

      named-whole : IsModule (named_module named (fabric_with options db image) order name)
      unfolding named_module
      named-whole = kept.whole (are-names (fabric_with options db image) ported order name whole named safe-pins)

      -- each run of the module before, and that of the module with the names
      same-state : (events : List Event)
          → All (λ other. SameState other (entry_renamed (port_renaming named (fabric_with (reading_all options) db image).pins) other)) (module_run (module_of (fabric_with options db image) order name) (map module_event events))
      same-state events =
          subst (λ pins. All (λ other. SameState other (entry_renamed (port_renaming named pins) other)) (module_run (module_of (fabric_with options db image) order name) (map module_event events))) same-pins
          (kept.state (only-ports (fabric_with options db image) ported order name whole named safe-pins) (map module_event events))

      named-run : (events : List Event) → module_run (named_module named (fabric_with options db image) order name) (map module_event events)
          ≡ map (entry_renamed (port_renaming named (fabric_with (reading_all options) db image).pins)) (module_run (module_of (fabric_with options db image) order name) (map module_event events))
      unfolding named_module
      named-run events =
          subst (λ pins. module_run (named_module named (fabric_with options db image) order name) (map module_event events)
          ≡ map (entry_renamed (port_renaming named pins)) (module_run (module_of (fabric_with options db image) order name) (map module_event events))) same-pins (kept.run (map module_event events))

      apart-pins : AreApart (PartsDiffer PortsDiffer pin_ports) (fabric_with (reading_all options) db image).pins
      apart-pins = subst (AreApart (PartsDiffer PortsDiffer pin_ports)) same-pins (pins-differ (fabric_with options db image) ported order name whole)

      ports-are : (named_module named (fabric_with options db image) order name).ports ≡ named_ports named (fabric_with (reading_all options) db image)
      unfolding named_module module_of
      ports-are =
          let own = fabric_with options db image in
          let all = fabric_with (reading_all options) db image in
          subst (λ pins. map (renamed_port (new_name (port_renaming named pins))) (flat_map pin_ports pins ++ map input_port (map pll_input own.plls)) ≡ named_ports named all) (sym same-pins)
          (subst (λ plls. map (renamed_port (new_name (port_renaming named all.pins))) (flat_map pin_ports all.pins ++ map input_port (map pll_input plls)) ≡ named_ports named all) (sym same-plls)
          (shown-ports named all ported-all apart-pins))

      runs-named : RunsNamed named options db image (named_module named (fabric_with options db image) order name)
      runs-named = record {
        ports = ports-are;
        one_run = alike.one_run;
        uncut = alike.uncut;
        alike = λ events entries run.
            subst (AllZip (MatchesNamed named (fabric_with (reading_all options) db image)) entries) (sym (named-run events))
            (each-named named (fabric_with (reading_all options) db image) ported-all apart-pins entries
            (module_run (module_of (fabric_with options db image) order name) (map module_event events)) (alike.alike events entries run) (same-state events));
      }

-- the names of a pin file without a fault are safe
accepted-safe : (pins : List Pin) (named : List PinName) → AreAccepted pins named → AreSafe (port_pins pins) named
accepted-safe pins named accepted =
    subst (AreSafe (port_pins pins)) (sym accepted.are) (safe-ports accepted.chosen (port_pins pins) accepted.text)

-- they can be given to the ports of the module
pub names-fresh : (named : List PinName) (options : FabricOptions) (db : Database) (image : Configuration) → IsFit db → (fabric_with options db image).nets ≤ 2 ^ 64 → design_fault options db image ≡ None
    → AreAccepted (fabric_with (reading_all options) db image).pins named → (order name : List ℕ) → IsWriteOrder (clocked_wiring (fabric_with options db image)) order → IsName name
    → IsFresh (port_renaming named (fabric_with options db image).pins) (module_of (fabric_with options db image) order name)
names-fresh named options db image fit few none accepted order name ordered is_name =
    let own = module-is-fabric options db image fit few none order name ordered is_name in
    fresh options db image order name own.0 named (accepted-safe (fabric_with (reading_all options) db image).pins named accepted)

-- the law
pub named-is-fabric : (named : List PinName) (options : FabricOptions) (db : Database) (image : Configuration) → NamedIsFabric named options db image
named-is-fabric named options db image fit few none accepted order name ordered is_name =
    let own = module-is-fabric options db image fit few none order name ordered is_name in
    let safe = accepted-safe (fabric_with (reading_all options) db image).pins named accepted in
    (named-whole options db image order name own.0 named safe own.1, runs-named options db image order name own.0 named safe own.1)

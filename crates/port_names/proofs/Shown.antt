-- The new names of a module's ports are those that the pin file gives, and its entries match those of the fabric.
use Rattle.std.proofs.Common.{◌≡◌, ℕ, zero, suc, Bool, true, false, List, [], ◌∷◌, ◌++◌, length, map, refl, sym, ap, ap₂, ◌∙◌, subst, arith, length-append}
use Rattle.std.specs.Prelude.{All, Contains, Option, Some, None, filter, flat_map, bytes_eq, codes, unwrap_or}
use Rattle.std.specs.List.{AllZip}
use Rattle.std.proofs.lemmas.List.{map-append, append_cancel_left}
use Rattle.std.proofs.lemmas.List.Elements.{All-append, All-cons, All-head, All-map, All-tail, All-contains, All-contains_itself, All-filter, All-weaker}
use Rattle.shared_lemmas.proofs.Bytes.{bytes_eq-same, bytes_eq-apart, apart_turned}
use Rattle.shared_lemmas.proofs.Lists.{All-both, map-same}
use Rattle.bit_plane.specs.BitList.{word_of}
use Rattle.vlog_module.specs.declared.modules.Port.{Port}
use Rattle.vlog_module.specs.Maps.{value_in}
use Rattle.vlog_semantics.specs.Entries.{Entry as ModuleEntry}
use Rattle.fabric_model.specs.declared.pin.Pin.{Pin}
use Rattle.fabric_model.specs.declared.input_port.InputPort.{InputPort}
use Rattle.fabric_model.specs.declared.input_port.InputPort.TheVariants.{Pad as PadPort, Outside as OutsidePort}
use Rattle.fabric_model.specs.declared.pll.PllSource.{PllSource}
use Rattle.fabric_model.specs.Tiles.{item_if}
use Rattle.fabric_model.specs.Pins.{drives, is_switched, has_input, has_outside}
use Rattle.fabric_model.specs.InputPorts.{pin_inputs, inputs_among, pll_input}
use Rattle.fabric_model.specs.Fabric.{Fabric, inputs_of}
use Rattle.fabric_model.specs.Outputs.{Output, enable_outputs, pin_outputs, outputs_of}
use Rattle.fabric_model.specs.Steps.{Entry}
use Rattle.fabric_model.proofs.Apart.{AreApart, All-every}
use Rattle.fabric_model.proofs.Within.{All-flat_map, All-item_if, All-single, if-when}
use Rattle.fabric_module.specs.Names.{pad_name, port_name, enable_name, outside_name, pll_name, input_port_name, output_name, register_name, read_name, memory_name}
use Rattle.fabric_module.specs.Written.{output_port, input_port, pin_ports, ports_of}
use Rattle.fabric_module.proofs.Configured.{each-name}
use Rattle.fabric_module.specs.Matching.{HasValues, HasWires, Matches}
use Rattle.fabric_module.proofs.Lists.{map-map}
use Rattle.pin_file.specs.declared.pin_name.PinName.{PinName}
use Rattle.pin_file.specs.PortNames.{enable_name as enable_name_after, input_name as input_name_after}
use Rattle.port_names.specs.Renamed.{new_name, renamed_port, renamed_values, entry_renamed}
use Rattle.port_names.specs.Law.{SameState}
use Rattle.port_names.specs.Named.{given_name, name_by, enable_by, outside_by, named_port, named_enable, named_input, named_input_port, named_pin_ports, named_ports, named_output, renaming_by, pin_renaming, port_renaming}
use Rattle.port_names.specs.Matching.{MatchesNamed}
use Rattle.port_names.proofs.Lists.{PartsDiffer, value_in-only, value_in-later}
use Rattle.port_names.proofs.Fresh.{IsPort, PortsDiffer, enable-in, outside-in, port-in, old-pin, old-entries}

-- ---- the new name of a pin's port

longer : (name tail : List ℕ) → bytes_eq name (name ++ 95 ∷ tail) ≡ false
longer name tail = bytes_eq-apart name (name ++ 95 ∷ tail) (λ same. absurd (omega (arith, ap length same, length-append name (95 ∷ tail))))

port-no_enable : (pin : Pin) → bytes_eq (port_name pin) (enable_name pin) ≡ false
unfolding enable_name
port-no_enable pin = longer (port_name pin) (codes "en")

port-no_outside : (pin : Pin) → bytes_eq (port_name pin) (outside_name pin.x pin.y pin.n) ≡ false
unfolding outside_name
port-no_outside pin = longer (port_name pin) (codes "in")

enable-no_outside : (pin : Pin) → bytes_eq (enable_name pin) (outside_name pin.x pin.y pin.n) ≡ false
unfolding enable_name outside_name
enable-no_outside pin =
    bytes_eq-apart (port_name pin ++ codes "_en") (port_name pin ++ codes "_in")
    (λ same. let never : false ≡ true = bytes_eq-same (codes "_en") (codes "_in") (append_cancel_left (port_name pin) (codes "_en") (codes "_in") same) in absurd cc)

port-given : (pin : Pin) (given : Option (List ℕ)) → unwrap_or (value_in (renaming_by pin given) (port_name pin)) (port_name pin) ≡ name_by (port_name pin) given
port-given pin None = refl
port-given pin (Some name) = rw (bytes_eq-same (port_name pin) (port_name pin) refl) refl

enable-given : (pin : Pin) → is_switched pin ≡ true → (given : Option (List ℕ))
    → unwrap_or (value_in (renaming_by pin given) (enable_name pin)) (enable_name pin) ≡ enable_by (enable_name pin) given
enable-given pin switched None = refl
enable-given pin switched (Some name) =
    rw switched (rw (port-no_enable pin) (rw (bytes_eq-same (enable_name pin) (enable_name pin) refl) refl))

outside-flags : (pin : Pin) (name : List ℕ) (switched outside : Bool) → outside ≡ true
    → value_in ((port_name pin, name) ∷ (item_if switched (enable_name pin, enable_name_after name) ++ item_if outside (outside_name pin.x pin.y pin.n, input_name_after name)))
    (outside_name pin.x pin.y pin.n) ≡ Some (input_name_after name)
outside-flags pin name true true is =
    rw (port-no_outside pin, enable-no_outside pin, bytes_eq-same (outside_name pin.x pin.y pin.n) (outside_name pin.x pin.y pin.n) refl) refl
outside-flags pin name false true is = rw (port-no_outside pin, bytes_eq-same (outside_name pin.x pin.y pin.n) (outside_name pin.x pin.y pin.n) refl) refl
outside-flags pin name switched false is = absurd cc

outside-given : (pin : Pin) → has_outside pin ≡ true → (given : Option (List ℕ))
    → unwrap_or (value_in (renaming_by pin given) (outside_name pin.x pin.y pin.n)) (outside_name pin.x pin.y pin.n) ≡ outside_by (outside_name pin.x pin.y pin.n) given
outside-given pin outside None = refl
outside-given pin outside (Some name) = ap (λ found. unwrap_or found (outside_name pin.x pin.y pin.n)) (outside-flags pin name (is_switched pin) (has_outside pin) outside)

-- a pin has no port with the name of a PLL's output
module _ (pll : PllSource) where
  abbrev NotOfPll : List ℕ → Type 0
  NotOfPll name = bytes_eq name (pll_name pll.x pll.y pll.output) ≡ false

  pad-not_pll : (x y n : ℕ) → NotOfPll (pad_name x y n)
  unfolding pad_name pll_name
  pad-not_pll x y n = refl

  enable-not_pll : (pin : Pin) → NotOfPll (enable_name pin)
  unfolding pad_name enable_name pll_name
  enable-not_pll pin = refl

  outside-not_pll : (x y n : ℕ) → NotOfPll (outside_name x y n)
  unfolding pad_name outside_name pll_name
  outside-not_pll x y n = refl

  pins-not_pll : (pins : List Pin) → All (λ (port : Port). NotOfPll port.name) (flat_map pin_ports pins)
  pins-not_pll pins =
      All-flat_map (λ (port : Port). NotOfPll port.name) pin_ports pins
      (All-every (λ pin. All (λ (port : Port). NotOfPll port.name) (pin_ports pin))
      (λ pin. each-name NotOfPll pin (pad-not_pll pin.x pin.y pin.n) (enable-not_pll pin) (outside-not_pll pin.x pin.y pin.n)) pins)

module _ (named : List PinName) where
  -- a name that no port of a pin has isn't replaced with the names of the pin
  away-pin : (name : List ℕ) (pin : Pin) → IsPort pin → All (λ (port : Port). bytes_eq port.name name ≡ false) (pin_ports pin)
      → All (λ (entry : List ℕ × List ℕ). bytes_eq entry.0 name ≡ false) (pin_renaming named pin)
  away-pin name pin is all = old-pin (λ other. bytes_eq other name ≡ false) pin is (given_name named pin) all

  -- the name of a port is looked up among those of its pin
  value-of : (pins : List Pin) → All IsPort pins → AreApart (PartsDiffer PortsDiffer pin_ports) pins → (pin : Pin) → Contains pins pin → (port : Port) → Contains (pin_ports pin) port
      → value_in (port_renaming named pins) port.name ≡ value_in (pin_renaming named pin) port.name
  unfolding port_renaming
  value-of [] ported apart pin (k, within, here) port of_port = absurd (omega (arith, within))
  value-of (first ∷ pins) ported apart pin (zero, within, here) port of_port =
      let in_first : Contains (pin_ports first) port = subst (λ p. Contains (pin_ports p) port) (sym here) of_port in
      let away : All (λ y. All (λ (two : Port). bytes_eq two.name port.name ≡ false) (pin_ports y)) pins =
      All-weaker (PartsDiffer PortsDiffer pin_ports first) (λ y. All (λ (two : Port). bytes_eq two.name port.name ≡ false) (pin_ports y))
      (λ y parts. All-weaker (PortsDiffer port) (λ (two : Port). bytes_eq two.name port.name ≡ false) (λ two other. apart_turned port.name two.name other) (pin_ports y)
      (All-contains (λ one. All (PortsDiffer one) (pin_ports y)) (pin_ports first) port parts in_first)) pins apart.0 in
      value_in-only (pin_renaming named first) (flat_map (pin_renaming named) pins) port.name
      (All-flat_map (λ (entry : List ℕ × List ℕ). bytes_eq entry.0 port.name ≡ false) (pin_renaming named) pins
      (All-both IsPort (λ y. All (λ (two : Port). bytes_eq two.name port.name ≡ false) (pin_ports y)) (λ y. All (λ (entry : List ℕ × List ℕ). bytes_eq entry.0 port.name ≡ false) (pin_renaming named y))
      (away-pin port.name) pins (All-tail IsPort first pins ported) away))
      ∙ ap (λ p. value_in (pin_renaming named p) port.name) here
  value-of (first ∷ pins) ported apart pin (suc k, within, here) port of_port =
      let there : Contains pins pin = (k, omega (arith, within), here) in
      let parts : PartsDiffer PortsDiffer pin_ports first pin = All-contains (PartsDiffer PortsDiffer pin_ports first) pins pin apart.0 there in
      value_in-later (pin_renaming named first) (flat_map (pin_renaming named) pins) port.name
      (away-pin port.name first (All-head IsPort first pins ported)
      (All-weaker (λ one. All (PortsDiffer one) (pin_ports pin)) (λ (one : Port). bytes_eq one.name port.name ≡ false)
      (λ one all. All-contains (PortsDiffer one) (pin_ports pin) port all of_port) (pin_ports first) parts))
      ∙ value-of pins (All-tail IsPort first pins ported) apart.1 pin there port of_port

  module _ (fabric : Fabric) (ported : All IsPort fabric.pins) (apart : AreApart (PartsDiffer PortsDiffer pin_ports) fabric.pins) where
    -- the ports of the module
    abbrev to : List ℕ → List ℕ
    to = new_name (port_renaming named fabric.pins)

    -- the new name of one of a pin's ports
    shown-by : (pin : Pin) → Contains fabric.pins pin → (port : Port) → Contains (pin_ports pin) port → (own shown : List ℕ) → port.name ≡ own
        → unwrap_or (value_in (pin_renaming named pin) own) own ≡ shown → to own ≡ shown
    shown-by pin there port of_port own shown is given =
        ap (λ found. unwrap_or found own)
        (subst (λ name. value_in (port_renaming named fabric.pins) name ≡ value_in (pin_renaming named pin) name) is (value-of fabric.pins ported apart pin there port of_port))
        ∙ given

    shown-port : (pin : Pin) → Contains fabric.pins pin → to (port_name pin) ≡ named_port named pin
    shown-port pin there =
        let port = port-in pin (All-contains IsPort fabric.pins pin ported there) in
        shown-by pin there port.0 port.1 (port_name pin) (named_port named pin) port.2 (port-given pin (given_name named pin))

    shown-enable : (pin : Pin) → Contains fabric.pins pin → is_switched pin ≡ true → to (enable_name pin) ≡ named_enable named pin
    shown-enable pin there switched =
        shown-by pin there (output_port (enable_name pin)) (enable-in pin switched) (enable_name pin) (named_enable named pin) refl (enable-given pin switched (given_name named pin))

    shown-outside : (pin : Pin) → Contains fabric.pins pin → has_outside pin ≡ true → to (outside_name pin.x pin.y pin.n) ≡ named_input named (OutsidePort pin.x pin.y pin.n)
    shown-outside pin there outside =
        shown-by pin there (input_port (OutsidePort pin.x pin.y pin.n)) (outside-in pin outside) (outside_name pin.x pin.y pin.n) (named_input named (OutsidePort pin.x pin.y pin.n)) refl
        (outside-given pin outside (given_name named pin))

    -- the port of an output has the name that it is given
    abbrev IsShown : Output → Type 0
    IsShown output = to (output_name output) ≡ named_output named output

    shown-pin : (pin : Pin) → Contains fabric.pins pin → All IsShown (pin_outputs fabric pin)
    shown-pin pin there =
        All-cons IsShown _ (enable_outputs fabric pin) (shown-port pin there)
        (if-when IsShown (is_switched pin) _ (λ switched. All-single IsShown _ (shown-enable pin there switched)))

    shown-outputs : All IsShown (outputs_of fabric)
    unfolding outputs_of
    shown-outputs =
        All-flat_map IsShown (pin_outputs fabric) (filter drives fabric.pins)
        (All-weaker (Contains fabric.pins) (λ pin. All IsShown (pin_outputs fabric pin)) shown-pin (filter drives fabric.pins)
        (All-filter drives (Contains fabric.pins) fabric.pins (All-contains_itself fabric.pins)))

    -- and so has an input port
    abbrev IsInputShown : InputPort → Type 0
    IsInputShown port = to (input_port_name port) ≡ named_input named port

    shown-inputs-of : (pin : Pin) → Contains fabric.pins pin → All IsInputShown (pin_inputs pin)
    shown-inputs-of pin there =
        All-append IsInputShown (item_if (has_input pin) (PadPort pin.x pin.y pin.n)) (item_if (has_outside pin) (OutsidePort pin.x pin.y pin.n))
        (All-item_if IsInputShown (has_input pin) (PadPort pin.x pin.y pin.n) (shown-port pin there))
        (if-when IsInputShown (has_outside pin) (OutsidePort pin.x pin.y pin.n ∷ []) (λ outside. All-single IsInputShown (OutsidePort pin.x pin.y pin.n) (shown-outside pin there outside)))

    -- the port of an output of a PLL keeps its name
    shown-pll : (pll : PllSource) → IsInputShown (pll_input pll)
    shown-pll pll =
        let own = pll_name pll.x pll.y pll.output in
        ap (λ found. unwrap_or found own)
        (value_in-only [] (port_renaming named fabric.pins) own (old-entries named fabric.pins ported (NotOfPll pll) (pins-not_pll pll fabric.pins)))

    shown-plls : All IsInputShown (map pll_input fabric.plls)
    shown-plls = All-map IsInputShown pll_input fabric.plls (All-every (λ pll. IsInputShown (pll_input pll)) shown-pll fabric.plls)

    shown-inputs : All IsInputShown (inputs_of fabric)
    shown-inputs =
        All-append IsInputShown (inputs_among fabric.pins) (map pll_input fabric.plls)
        (All-flat_map IsInputShown pin_inputs fabric.pins
        (All-weaker (Contains fabric.pins) (λ pin. All IsInputShown (pin_inputs pin)) shown-inputs-of fabric.pins (All-contains_itself fabric.pins)))
        shown-plls

    output-shown : (passes : Bool) (own shown : List ℕ) → (passes ≡ true → to own ≡ shown)
        → map (renamed_port to) (item_if passes (output_port own)) ≡ item_if passes (output_port shown)
    output-shown true own shown is = ap (λ name. output_port name ∷ []) (is refl)
    output-shown false own shown is = refl

    inputs-shown : (ports : List InputPort) → All IsInputShown ports → map (renamed_port to) (map input_port ports) ≡ map (named_input_port named) ports
    inputs-shown [] all = refl
    inputs-shown (port ∷ ports) all =
        ap₂ (λ name rest. record { name = name; output = false } ∷ rest) (All-head IsInputShown port ports all) (inputs-shown ports (All-tail IsInputShown port ports all))

    ports-of-pin : (pin : Pin) → Contains fabric.pins pin → map (renamed_port to) (pin_ports pin) ≡ named_pin_ports named pin
    ports-of-pin pin there =
        let first = item_if (drives pin) (output_port (port_name pin)) in
        let second = item_if (is_switched pin) (output_port (enable_name pin)) in
        let last = map input_port (pin_inputs pin) in
        map-append (renamed_port to) first (second ++ last)
        ∙ ap₂ (λ one other. one ++ other) (output-shown (drives pin) (port_name pin) (named_port named pin) (λ is. shown-port pin there))
        (map-append (renamed_port to) second last
        ∙ ap₂ (λ one other. one ++ other) (output-shown (is_switched pin) (enable_name pin) (named_enable named pin) (shown-enable pin there))
        (inputs-shown (pin_inputs pin) (shown-inputs-of pin there)))

    ports-below : (pins : List Pin) → All (Contains fabric.pins) pins → map (renamed_port to) (flat_map pin_ports pins) ≡ flat_map (named_pin_ports named) pins
    ports-below [] all = refl
    ports-below (pin ∷ pins) all =
        map-append (renamed_port to) (pin_ports pin) (flat_map pin_ports pins)
        ∙ ap₂ (λ (one two : List Port). one ++ two) (ports-of-pin pin (All-head (Contains fabric.pins) pin pins all)) (ports-below pins (All-tail (Contains fabric.pins) pin pins all))

    pub shown-ports : map (renamed_port to) (ports_of fabric) ≡ named_ports named fabric
    unfolding named_ports
    shown-ports =
        map-append (renamed_port to) (flat_map pin_ports fabric.pins) (map input_port (map pll_input fabric.plls))
        ∙ ap₂ (λ (one two : List Port). one ++ two) (ports-below fabric.pins (All-contains_itself fabric.pins)) (inputs-shown (map pll_input fabric.plls) shown-plls)

    -- ---- entries

    renamed-has : {A : Type 0} (to : List ℕ → List ℕ) (entries : List (List ℕ × A)) (names shown : List (List ℕ)) (values : List A)
        → HasValues entries names values → map to names ≡ shown → HasValues (renamed_values to entries) shown values
    renamed-has {A} to entries names shown values has same =
        let renamed : List ℕ × A → List ℕ × A = λ entry. (to entry.0, entry.1) in
        record {
          named = map-map renamed (λ (entry : List ℕ × A). entry.0) entries
              ∙ (sym (map-map (λ (entry : List ℕ × A). entry.0) to entries) ∙ (ap (map to) has.named ∙ same));
          valued = map-map renamed (λ (entry : List ℕ × A). entry.1) entries ∙ has.valued;
        }

    matches-named : (entry : Entry) (other : ModuleEntry) → Matches fabric entry other → SameState other (entry_renamed (port_renaming named fabric.pins) other)
        → MatchesNamed named fabric entry (entry_renamed (port_renaming named fabric.pins) other)
    matches-named entry other matches same =
        let to : List ℕ → List ℕ = new_name (port_renaming named fabric.pins) in
        record {
          inputs = renamed-has to other.inputs (map input_port_name (inputs_of fabric)) (map (named_input named) (inputs_of fabric)) entry.pins matches.inputs
              (map-map input_port_name to (inputs_of fabric) ∙ map-same (λ port. to (input_port_name port)) (named_input named) (inputs_of fabric) shown-inputs);
          outputs = renamed-has to other.outputs (map output_name (outputs_of fabric)) (map (named_output named) (outputs_of fabric)) entry.outputs matches.outputs
              (map-map output_name to (outputs_of fabric) ∙ map-same (λ output. to (output_name output)) (named_output named) (outputs_of fabric) shown-outputs);
          registers = subst (λ list. HasValues list (map register_name fabric.registers) entry.state.bits) (sym same.registers) matches.registers;
          words = subst (λ list. HasValues list (map read_name fabric.rams) (map word_of entry.state.reads)) (sym same.words) matches.words;
          memories = subst (λ list. HasValues list (map memory_name fabric.rams) (map (map word_of) entry.state.words)) (sym same.memories) matches.memories;
          wires = subst (HasWires fabric entry.v) (sym same.wires) matches.wires;
        }

    pub each-named : (entries : List Entry) (others : List ModuleEntry) → AllZip (Matches fabric) entries others
        → All (λ other. SameState other (entry_renamed (port_renaming named fabric.pins) other)) others
        → AllZip (MatchesNamed named fabric) entries (map (entry_renamed (port_renaming named fabric.pins)) others)
    each-named [] [] match same = tt
    each-named [] (other ∷ others) match same = absurd match
    each-named (entry ∷ entries) [] match same = absurd match
    each-named (entry ∷ entries) (other ∷ others) match same = (
      matches-named entry other match.0 (All-head (λ one. SameState one (entry_renamed (port_renaming named fabric.pins) one)) other others same),
      each-named entries others match.1 (All-tail (λ one. SameState one (entry_renamed (port_renaming named fabric.pins) one)) other others same),
    )

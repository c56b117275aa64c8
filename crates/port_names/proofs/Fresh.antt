-- The renaming by a pin file is fresh for the module that is written.
use Rattle.std.proofs.Common.{◌≡◌, ℕ, zero, suc, Bool, true, false, List, [], ◌∷◌, ◌++◌, map, refl, sym, ap, ◌∙◌, subst, arith, inl, inr}
use Rattle.std.specs.Prelude.{All, Contains, Option, Some, None, flat_map, bytes_eq, not, ◌||◌, IsTrue}
use Rattle.std.proofs.lemmas.Bool.{cases_Bool, or_right}
use Rattle.std.proofs.lemmas.List.Elements.{All-nil, All-cons, All-append, All-map, All-contains, All-contains_itself, All-weaker, Contains-append_left, Contains-append_right}
use Rattle.shared_lemmas.proofs.Bytes.{bytes_eq-same, bytes_eq-apart}
use Rattle.shared_lemmas.proofs.Lists.{All-both}
use Rattle.vlog_module.specs.declared.modules.Port.{Port}
use Rattle.vlog_module.specs.Names.{IsName}
use Rattle.vlog_module.specs.WellFormed.{IsModule}
use Rattle.vlog_semantics.specs.Named.{has_name}
use Rattle.fabric_model.specs.declared.pin.Pin.{Pin}
use Rattle.fabric_model.specs.declared.input_port.InputPort.{InputPort}
use Rattle.fabric_model.specs.declared.input_port.InputPort.TheVariants.{Pad as PadPort, Outside as OutsidePort}
use Rattle.fabric_model.specs.Tiles.{item_if}
use Rattle.fabric_model.specs.Pins.{drives, is_switched, has_input, has_outside, is_port}
use Rattle.fabric_model.specs.InputPorts.{pin_inputs, pll_input}
use Rattle.fabric_model.specs.Fabric.{Fabric}
use Rattle.fabric_model.proofs.Apart.{AreApart, apart-weaker}
use Rattle.fabric_model.proofs.Within.{All-flat_map, All-single, if-when}
use Rattle.fabric_model.proofs.Contained.{contains-map}
use Rattle.fabric_module.specs.Names.{port_name, enable_name, outside_name}
use Rattle.fabric_module.specs.Written.{output_port, input_port, pin_ports, ports_of, module_of}
use Rattle.pin_file.specs.declared.pin_name.PinName.{PinName}
use Rattle.pin_file.specs.PortNames.{has_own_form, all_names, AreSafe, enable_name as enable_name_after, input_name as input_name_after}
use Rattle.port_names.specs.Fresh.{old_names, new_names, declared_names, port_names, IsFresh, AreNames, OnlyPorts}
use Rattle.port_names.specs.Named.{port_pins, given_name, renaming_by, pin_renaming, port_renaming}
use Rattle.port_names.proofs.Own.{IsOwn}
use Rattle.port_names.proofs.DeclaredOwn.{pins-own, declared-own}
use Rattle.port_names.proofs.Lists.{All-each, All-front, apart-front, PartsDiffer, parts-apart, apart-before, Differ, apart-names, has_name-none}
use Rattle.port_names.proofs.PinFileNames.{apart-known, new-all, new-apart}

-- ---- old names

or_second : (a b : Bool) → (a || b) ≡ true → a ≡ false → b ≡ true
or_second true b is away = absurd cc
or_second false b is away = is

-- two ports have different names
abbrev pub PortsDiffer : Port → Port → Type 0
PortsDiffer one two = Differ one.name two.name

-- ---- the ports of a pin

-- a pin is a port
abbrev pub IsPort : Pin → Type 0
IsPort pin = is_port pin ≡ true

module _ (pin : Pin) where
  abbrev output_ports : List Port
  output_ports = item_if (drives pin) (output_port (port_name pin))

  abbrev enable_ports : List Port
  enable_ports = item_if (is_switched pin) (output_port (enable_name pin))

  pub output-in : drives pin ≡ true → Contains (pin_ports pin) (output_port (port_name pin))
  output-in is = Contains-append_left output_ports (enable_ports ++ map input_port (pin_inputs pin)) (output_port (port_name pin)) (rw is (0, omega arith, refl))

  pub enable-in : is_switched pin ≡ true → Contains (pin_ports pin) (output_port (enable_name pin))
  enable-in is =
      Contains-append_right output_ports (enable_ports ++ map input_port (pin_inputs pin)) (output_port (enable_name pin))
      (Contains-append_left enable_ports (map input_port (pin_inputs pin)) (output_port (enable_name pin)) (rw is (0, omega arith, refl)))

  pub input-in : (port : InputPort) → Contains (pin_inputs pin) port → Contains (pin_ports pin) (input_port port)
  input-in port there =
      Contains-append_right output_ports (enable_ports ++ map input_port (pin_inputs pin)) (input_port port)
      (Contains-append_right enable_ports (map input_port (pin_inputs pin)) (input_port port) (contains-map input_port (pin_inputs pin) port there))

  pub pad-in : has_input pin ≡ true → Contains (pin_ports pin) (input_port (PadPort pin.x pin.y pin.n))
  pad-in is =
      input-in (PadPort pin.x pin.y pin.n)
      (Contains-append_left (item_if (has_input pin) (PadPort pin.x pin.y pin.n)) (item_if (has_outside pin) (OutsidePort pin.x pin.y pin.n)) (PadPort pin.x pin.y pin.n)
      (rw is (0, omega arith, refl)))

  pub outside-in : has_outside pin ≡ true → Contains (pin_ports pin) (input_port (OutsidePort pin.x pin.y pin.n))
  outside-in is =
      input-in (OutsidePort pin.x pin.y pin.n)
      (Contains-append_right (item_if (has_input pin) (PadPort pin.x pin.y pin.n)) (item_if (has_outside pin) (OutsidePort pin.x pin.y pin.n)) (OutsidePort pin.x pin.y pin.n)
      (rw is (0, omega arith, refl)))

  -- one of the ports of a pin that is a port has the pin's name
  pub port-in : IsPort pin → (port : Port) × Contains (pin_ports pin) port × (port.name ≡ port_name pin)
  port-in is =
      elim (cases_Bool (drives pin)) [
        | inl here ↦ (output_port (port_name pin), output-in here, refl)
        | inr away ↦
            let input : has_input pin ≡ true = or_second (drives pin) (has_input pin) is away in
            (input_port (PadPort pin.x pin.y pin.n), pad-in input, refl)
      ]

-- what holds of the names of a pin's ports holds of those that are exchanged
pub old-pin : (Q : List ℕ → Type 0) (pin : Pin) → IsPort pin → (given : Option (List ℕ)) → All (λ (port : Port). Q port.name) (pin_ports pin)
    → All (λ (entry : List ℕ × List ℕ). Q entry.0) (renaming_by pin given)
old-pin Q pin is None all = All-nil (λ (entry : List ℕ × List ℕ). Q entry.0)
old-pin Q pin is (Some name) all =
    let NamedSo = λ (port : Port). Q port.name in
    let Old = λ (entry : List ℕ × List ℕ). Q entry.0 in
    let port = port-in pin is in
    All-cons Old (port_name pin, name) _ (subst Q port.2 (All-contains NamedSo (pin_ports pin) port.0 all port.1))
    (All-append Old (item_if (is_switched pin) (enable_name pin, enable_name_after name)) (item_if (has_outside pin) (outside_name pin.x pin.y pin.n, input_name_after name))
    (if-when Old (is_switched pin) ((enable_name pin, enable_name_after name) ∷ [])
    (λ here. All-single Old (enable_name pin, enable_name_after name) (All-contains NamedSo (pin_ports pin) (output_port (enable_name pin)) all (enable-in pin here))))
    (if-when Old (has_outside pin) ((outside_name pin.x pin.y pin.n, input_name_after name) ∷ [])
    (λ here. All-single Old (outside_name pin.x pin.y pin.n, input_name_after name) (All-contains NamedSo (pin_ports pin) (input_port (OutsidePort pin.x pin.y pin.n)) all (outside-in pin here)))))

-- and so it does of those of all pins
pub old-entries : (named : List PinName) (pins : List Pin) → All IsPort pins → (Q : List ℕ → Type 0) → All (λ (port : Port). Q port.name) (flat_map pin_ports pins)
    → All (λ (entry : List ℕ × List ℕ). Q entry.0) (port_renaming named pins)
unfolding port_renaming
old-entries named pins ported Q all =
    let NamedSo = λ (port : Port). Q port.name in
    let Old = λ (entry : List ℕ × List ℕ). Q entry.0 in
    All-flat_map Old (pin_renaming named) pins
    (All-both IsPort (λ pin. All NamedSo (pin_ports pin)) (λ pin. All Old (pin_renaming named pin))
    (λ pin is each. old-pin Q pin is (given_name named pin) each) pins ported (All-each NamedSo pin_ports pins all))

old-all : (named : List PinName) (pins : List Pin) → All IsPort pins → (Q : List ℕ → Type 0) → All (λ (port : Port). Q port.name) (flat_map pin_ports pins)
    → All Q (old_names (port_renaming named pins))
old-all named pins ported Q all =
    All-map Q (λ (entry : List ℕ × List ℕ). entry.0) (port_renaming named pins) (old-entries named pins ported Q all)

-- a name that has no form of a module's own is none of these
none-own : (names : List (List ℕ)) → All IsOwn names → (name : List ℕ) → has_own_form name ≡ false → IsTrue (not (has_name names name))
none-own names own name foreign =
    has_name-none names name
    (All-weaker IsOwn (λ other. bytes_eq other name ≡ false)
    (λ other is. bytes_eq-apart other name (λ same. let never : true ≡ false = sym is ∙ (ap has_own_form same ∙ foreign) in absurd cc)) names own)

has-there : (ports : List Port) (port : Port) → Contains ports port → IsTrue (has_name (port_names ports) port.name)
has-there [] port (k, within, here) = absurd (omega (arith, within))
has-there (first ∷ ports) port (zero, within, here) = rw (bytes_eq-same first.name port.name (ap (λ (p : Port). p.name) here)) refl
has-there (first ∷ ports) port (suc k, within, here) = or_right _ _ (has-there ports port (k, omega (arith, within), here))

-- ---- the module

module _ (fabric : Fabric) (ported : All IsPort fabric.pins) (order name : List ℕ) (whole : IsModule (module_of fabric order name)) where
  -- the outputs of PLLs, which are ports too
  abbrev pll_ports : List Port
  pll_ports = map input_port (map pll_input fabric.plls)

  ports-named : All (λ (port : Port). IsName port.name) (flat_map pin_ports fabric.pins)
  unfolding module_of
  ports-named = All-front (λ (port : Port). IsName port.name) (flat_map pin_ports fabric.pins) pll_ports whole.begun.named

  ports-apart : AreApart PortsDiffer (flat_map pin_ports fabric.pins)
  unfolding module_of
  ports-apart =
      apart-front PortsDiffer (flat_map pin_ports fabric.pins) pll_ports
      (apart-before Differ (λ (port : Port). port.name) (ports_of fabric) (apart-names (map (λ (port : Port). port.name) (ports_of fabric)) whole.begun.apart))

  -- the ports of two pins have different names
  pub pins-differ : AreApart (PartsDiffer PortsDiffer pin_ports) fabric.pins
  pins-differ = parts-apart PortsDiffer pin_ports fabric.pins ports-apart

  names-differ : AreApart (λ (a b : Pin). Differ (port_name a) (port_name b)) fabric.pins
  names-differ =
      apart-weaker (λ (a b : Pin). IsPort a × IsPort b × PartsDiffer PortsDiffer pin_ports a b) (λ (a b : Pin). Differ (port_name a) (port_name b))
      (λ a b known.
      let one = port-in a known.0 in
      let two = port-in b known.1 in
      let differ : Differ one.0.name two.0.name =
      All-contains (PortsDiffer one.0) (pin_ports b) two.0 (All-contains (λ m. All (PortsDiffer m) (pin_ports b)) (pin_ports a) one.0 known.2 one.1) two.1 in
      subst (λ first. Differ first (port_name b)) one.2 (subst (Differ one.0.name) two.2 differ))
      fabric.pins (apart-known IsPort (PartsDiffer PortsDiffer pin_ports) fabric.pins ported pins-differ)

  module _ (named : List PinName) (safe : AreSafe (port_pins fabric.pins) named) where
    pub is-fresh : IsFresh (port_renaming named fabric.pins) (module_of fabric order name)
    is-fresh =
        let foreign_to : (names : List (List ℕ)) → All IsOwn names → All (λ q. IsTrue (not (has_name names q))) (new_names (port_renaming named fabric.pins)) =
        λ names own. new-all fabric.pins named names-differ (λ q. IsTrue (not (has_name names q)))
        (All-weaker (λ q. has_own_form q ≡ false) (λ q. IsTrue (not (has_name names q))) (none-own names own) (all_names (port_pins fabric.pins) named) safe.foreign) in
        record {
          apart = new-apart fabric.pins named names-differ safe;
          undeclared = foreign_to (declared_names (module_of fabric order name)) (declared-own fabric order name);
          unlisted = foreign_to (old_names (port_renaming named fabric.pins)) (old-all named fabric.pins ported IsOwn (pins-own fabric.pins));
        }

    pub are-names : AreNames (port_renaming named fabric.pins)
    are-names = record { old = old-all named fabric.pins ported IsName ports-named; «new» = new-all fabric.pins named names-differ IsName safe.are_names }

    pub only-ports : OnlyPorts (port_renaming named fabric.pins) (module_of fabric order name)
    unfolding module_of
    only-ports =
        old-all named fabric.pins ported (λ q. IsTrue (has_name (port_names (ports_of fabric)) q))
        (All-weaker (Contains (flat_map pin_ports fabric.pins)) (λ (port : Port). IsTrue (has_name (port_names (ports_of fabric)) port.name))
        (λ port there. has-there (ports_of fabric) port (Contains-append_left (flat_map pin_ports fabric.pins) pll_ports port there))
        (flat_map pin_ports fabric.pins) (All-contains_itself (flat_map pin_ports fabric.pins)))

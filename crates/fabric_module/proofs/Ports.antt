-- The ports of a written module: those that are inputs and those that are outputs, each in their order.
use Rattle.std.proofs.Common.{◌≡◌, ℕ, Bool, true, false, List, [], ◌∷◌, ◌++◌, map, refl, sym, ap, ap₂, ◌∙◌, subst, inl, inr}
use Rattle.std.specs.Prelude.{All, filter, flat_map, bytes_eq, codes, not}
use Rattle.std.proofs.lemmas.Bool.{cases_Bool}
use Rattle.std.proofs.lemmas.List.{map-append, append-nil}
use Rattle.std.proofs.lemmas.List.Elements.{All-nil, All-cons, All-head, All-tail, All-append, All-map, filter-append}
use Rattle.vlog_module.specs.declared.modules.Port.{Port}
use Rattle.vlog_semantics.specs.Run.{input_start, output_start}
use Rattle.fabric_model.specs.declared.pin.Pin.{Pin}
use Rattle.fabric_model.specs.declared.pin.PadDrive.{PadDrive}
use Rattle.fabric_model.specs.declared.pin.PadDrive.TheVariants.{Never, Always, ByNet, ByRegister}
use Rattle.fabric_model.specs.declared.input_port.InputPort.{InputPort}
use Rattle.fabric_model.specs.Tiles.{item_if}
use Rattle.fabric_model.specs.declared.input_port.InputPort.TheVariants.{Pad, Outside}
use Rattle.fabric_model.specs.Pins.{drives, is_switched, has_input, has_outside}
use Rattle.fabric_model.specs.InputPorts.{pin_inputs, inputs_among, pll_input}
use Rattle.fabric_model.specs.Fabric.{Fabric, inputs_of}
use Rattle.fabric_model.specs.Outputs.{Output, pin_outputs, outputs_of}
use Rattle.fabric_model.proofs.Apart.{All-every, apart-filter}
use Rattle.fabric_model.proofs.Within.{All-flat_map, All-item_if}
use Rattle.fabric_module.specs.Names.{three_numbers, pad_name, port_name, enable_name, outside_name, input_port_name, output_name}
use Rattle.fabric_module.specs.Written.{output_port, input_port, pin_ports}
pub use Rattle.fabric_module.specs.Written.{ports_of}
use Rattle.fabric_module.proofs.Lists.{NamesDiffer, Apart, map-map}
use Rattle.fabric_module.proofs.Apart.{input-begins}

abbrev pub port_label : Port → List ℕ
port_label port = port.name

-- the port of an output
abbrev pub port_of : Output → Port
port_of output = output_port (output_name output)

abbrev is_input : Port → Bool
is_input port = not port.output

abbrev is_output : Port → Bool
is_output port = port.output

-- ---- inputs and outputs among them

no-input : (passes : Bool) (name : List ℕ) → filter is_input (item_if passes (output_port name)) ≡ []
no-input true name = refl
no-input false name = refl

all-outputs : (passes : Bool) (name : List ℕ) → filter is_output (item_if passes (output_port name)) ≡ item_if passes (output_port name)
all-outputs true name = refl
all-outputs false name = refl

all-inputs : (ports : List InputPort) → filter is_input (map input_port ports) ≡ map input_port ports
all-inputs [] = refl
all-inputs (port ∷ ports) = ap (λ list. input_port port ∷ list) (all-inputs ports)

no-output : (ports : List InputPort) → filter is_output (map input_port ports) ≡ []
no-output [] = refl
no-output (port ∷ ports) = no-output ports

-- the two outputs of a pin, if it has them
abbrev two_outputs : Pin → List Port
two_outputs pin = item_if (drives pin) (output_port (port_name pin)) ++ item_if (is_switched pin) (output_port (enable_name pin))

pin-inputs : (pin : Pin) → filter is_input (pin_ports pin) ≡ map input_port (pin_inputs pin)
pin-inputs pin =
    let first = item_if (drives pin) (output_port (port_name pin)) in
    let second = item_if (is_switched pin) (output_port (enable_name pin)) in
    let last = map input_port (pin_inputs pin) in
    filter-append is_input first (second ++ last)
    ∙ (ap₂ (λ one other. one ++ other) (no-input (drives pin) (port_name pin))
    (filter-append is_input second last ∙ ap₂ (λ one other. one ++ other) (no-input (is_switched pin) (enable_name pin)) (all-inputs (pin_inputs pin))))

pin-both : (pin : Pin) → filter is_output (pin_ports pin) ≡ two_outputs pin
pin-both pin =
    let first = item_if (drives pin) (output_port (port_name pin)) in
    let second = item_if (is_switched pin) (output_port (enable_name pin)) in
    let last = map input_port (pin_inputs pin) in
    filter-append is_output first (second ++ last)
    ∙ ap₂ (λ one other. one ++ other) (all-outputs (drives pin) (port_name pin))
    (filter-append is_output second last
    ∙ (ap₂ (λ one other. one ++ other) (all-outputs (is_switched pin) (enable_name pin)) (no-output (pin_inputs pin)) ∙ append-nil second))

of_pins-inputs : (pins : List Pin) → filter is_input (flat_map pin_ports pins) ≡ map input_port (inputs_among pins)
of_pins-inputs [] = refl
of_pins-inputs (pin ∷ pins) =
    filter-append is_input (pin_ports pin) (flat_map pin_ports pins)
    ∙ (ap₂ (λ one other. one ++ other) (pin-inputs pin) (of_pins-inputs pins) ∙ sym (map-append input_port (pin_inputs pin) (inputs_among pins)))

pub ports-inputs : (fabric : Fabric) → filter is_input (ports_of fabric) ≡ map input_port (inputs_of fabric)
ports-inputs fabric =
    let plls = map pll_input fabric.plls in
    filter-append is_input (flat_map pin_ports fabric.pins) (map input_port plls)
    ∙ (ap₂ (λ one other. one ++ other) (of_pins-inputs fabric.pins) (all-inputs plls) ∙ sym (map-append input_port (inputs_among fabric.pins) plls))

-- the outputs of a pin that drives its pad so
outputs-by : (fabric : Fabric) (pin : Pin) (rest : List Pin) (so : PadDrive) → pin.drive ≡ so
    → map port_of (flat_map (pin_outputs fabric) (filter drives (pin ∷ rest))) ≡ two_outputs pin ++ map port_of (flat_map (pin_outputs fabric) (filter drives rest))
outputs-by fabric pin rest Never is = rw is refl
outputs-by fabric pin rest Always is = rw is refl
outputs-by fabric pin rest ByNet is = rw is refl
outputs-by fabric pin rest ByRegister is = rw is refl

pub ports-outputs : (fabric : Fabric) (pins : List Pin) → filter is_output (flat_map pin_ports pins) ≡ map port_of (flat_map (pin_outputs fabric) (filter drives pins))
ports-outputs fabric [] = refl
ports-outputs fabric (pin ∷ pins) =
    filter-append is_output (pin_ports pin) (flat_map pin_ports pins)
    ∙ (ap₂ (λ one other. one ++ other) (pin-both pin) (ports-outputs fabric pins) ∙ sym (outputs-by fabric pin pins pin.drive refl))

pub outputs-ports : (fabric : Fabric) → filter is_output (ports_of fabric) ≡ map port_of (outputs_of fabric)
unfolding outputs_of
outputs-ports fabric =
    let plls = map pll_input fabric.plls in
    filter-append is_output (flat_map pin_ports fabric.pins) (map input_port plls)
    ∙ (ap (λ other. filter is_output (flat_map pin_ports fabric.pins) ++ other) (no-output plls) ∙ append-nil (filter is_output (flat_map pin_ports fabric.pins)))
    ∙ ports-outputs fabric fabric.pins

-- ---- lists that are made from others

pub All-unmap : {X Y : Type 0} (P : Y → Type 0) (f : X → Y) (xs : List X) → All P (map f xs) → All (λ x. P (f x)) xs
All-unmap P f [] all = All-nil (λ x. P (f x))
All-unmap P f (x ∷ xs) all = All-cons (λ y. P (f y)) x xs (All-head P (f x) (map f xs) all) (All-unmap P f xs (All-tail P (f x) (map f xs) all))

apart-unmap : {X Y : Type 0} (name : Y → List ℕ) (f : X → Y) (xs : List X) → Apart name (map f xs) → Apart (λ x. name (f x)) xs
apart-unmap name f [] apart = tt
apart-unmap name f (x ∷ xs) apart = (All-unmap (λ y. bytes_eq (name (f x)) (name y) ≡ false) f xs apart.0, apart-unmap name f xs apart.1)

-- the names of inputs and of outputs are apart
pub inputs-apart : (fabric : Fabric) → Apart port_label (ports_of fabric) → Apart input_port_name (inputs_of fabric)
inputs-apart fabric apart =
    apart-unmap port_label input_port (inputs_of fabric)
    (subst (Apart port_label) (ports-inputs fabric) (apart-filter (NamesDiffer port_label) is_input (ports_of fabric) apart))

pub outputs-apart : (fabric : Fabric) → Apart port_label (ports_of fabric) → Apart output_name (outputs_of fabric)
outputs-apart fabric apart =
    apart-unmap port_label port_of (outputs_of fabric)
    (subst (Apart port_label) (outputs-ports fabric) (apart-filter (NamesDiffer port_label) is_output (ports_of fabric) apart))

-- ---- what starts

inputs-from : (ports : List Port) → flat_map input_start ports ≡ map (λ port. (port.name, false)) (filter (λ port. not port.output) ports)
inputs-from [] = refl
inputs-from (port ∷ ports) =
    elim (cases_Bool port.output) [
      | inl here ↦ rw here (inputs-from ports)
      | inr away ↦ rw away (ap (λ list. (port.name, false) ∷ list) (inputs-from ports))
    ]

outputs-from : (ports : List Port) → flat_map output_start ports ≡ map (λ port. (port.name, false)) (filter (λ port. port.output) ports)
outputs-from [] = refl
outputs-from (port ∷ ports) =
    elim (cases_Bool port.output) [
      | inl here ↦ rw here (ap (λ list. (port.name, false) ∷ list) (outputs-from ports))
      | inr away ↦ rw away (outputs-from ports)
    ]

pub inputs-start : (fabric : Fabric) → flat_map input_start (ports_of fabric) ≡ map (λ port. (input_port_name port, false)) (inputs_of fabric)
inputs-start fabric =
    inputs-from (ports_of fabric)
    ∙ (ap (map (λ (port : Port). (port.name, false))) (ports-inputs fabric) ∙ map-map input_port (λ (port : Port). (port.name, false)) (inputs_of fabric))

-- the outputs before they are assigned
pub outputs-start : (fabric : Fabric) → flat_map output_start (ports_of fabric) ≡ map (λ output. (output_name output, false)) (outputs_of fabric)
outputs-start fabric =
    outputs-from (ports_of fabric)
    ∙ (ap (map (λ (port : Port). (port.name, false))) (outputs-ports fabric) ∙ map-map port_of (λ (port : Port). (port.name, false)) (outputs_of fabric))

-- ---- names

-- what holds of the names of a pin's outputs and of all input ports holds of the names of its ports
pub each-port : (P : Port → Type 0) (pin : Pin) → P (output_port (port_name pin)) → P (output_port (enable_name pin)) → All (λ port. P (input_port port)) (pin_inputs pin)
    → All P (pin_ports pin)
each-port P pin of_output of_enable of_inputs =
    All-append P (item_if (drives pin) (output_port (port_name pin))) (item_if (is_switched pin) (output_port (enable_name pin)) ++ map input_port (pin_inputs pin))
    (All-item_if P (drives pin) (output_port (port_name pin)) of_output)
    (All-append P (item_if (is_switched pin) (output_port (enable_name pin))) (map input_port (pin_inputs pin))
    (All-item_if P (is_switched pin) (output_port (enable_name pin)) of_enable) (All-map P input_port (pin_inputs pin) of_inputs))

-- what holds of all names that begin so holds of the names of the ports of pins
pub of_pins-begin : (P : List ℕ → Type 0) → ((rest : List ℕ) → P (codes "io_" ++ rest)) → (pins : List Pin) → All (λ (port : Port). P port.name) (flat_map pin_ports pins)
unfolding pad_name enable_name outside_name
of_pins-begin P each pins =
    let Is : Port → Type 0 = λ port. P port.name in
    All-flat_map Is pin_ports pins
    (All-every (λ pin. All Is (pin_ports pin))
    (λ pin. each-port Is pin (each (three_numbers pin.x pin.y pin.n)) (each (three_numbers pin.x pin.y pin.n ++ codes "_en"))
    (All-append (λ port. P (input_port_name port)) (item_if (has_input pin) (Pad pin.x pin.y pin.n)) (item_if (has_outside pin) (Outside pin.x pin.y pin.n))
    (All-item_if (λ port. P (input_port_name port)) (has_input pin) (Pad pin.x pin.y pin.n) (each (three_numbers pin.x pin.y pin.n)))
    (All-item_if (λ port. P (input_port_name port)) (has_outside pin) (Outside pin.x pin.y pin.n) (each (three_numbers pin.x pin.y pin.n ++ codes "_in"))))) pins)

-- what holds also of those that begin as outputs of PLLs do holds of the names of all ports
pub ports-begin : (P : List ℕ → Type 0) → ((rest : List ℕ) → P (codes "io_" ++ rest)) → ((rest : List ℕ) → P (codes "pll_" ++ rest)) → (fabric : Fabric)
    → All (λ (port : Port). P port.name) (ports_of fabric)
ports-begin P each of_pll fabric =
    let Is : Port → Type 0 = λ port. P port.name in
    All-append Is (flat_map pin_ports fabric.pins) (map input_port (map pll_input fabric.plls)) (of_pins-begin P each fabric.pins)
    (All-map Is input_port (map pll_input fabric.plls) (All-every (λ port. P (input_port_name port)) (input-begins P each of_pll) (map pll_input fabric.plls)))

-- so a name that begins otherwise is none of them
pub ports-absent : (fabric : Fabric) (q : List ℕ) → ((rest : List ℕ) → bytes_eq (codes "io_" ++ rest) q ≡ false) → ((rest : List ℕ) → bytes_eq (codes "pll_" ++ rest) q ≡ false)
    → All (λ n. bytes_eq n q ≡ false) (map port_label (ports_of fabric))
ports-absent fabric q away other =
    All-map (λ n. bytes_eq n q ≡ false) port_label (ports_of fabric) (ports-begin (λ n. bytes_eq n q ≡ false) away other fabric)

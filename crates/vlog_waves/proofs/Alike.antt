-- Values as they are kept.
use Rattle.std.proofs.Common.{◌≡◌, ◌∙◌, ℕ, ◌+◌, ◌-◌, ◌<◌, ◌≤◌, Bool, true, false, List, ◌∷◌, ◌++◌, drop, get_or, length, map, ap, ap₂, sym, arith}
use Rattle.std.specs.Prelude.{if◌then◌else◌}
use Rattle.std.proofs.lemmas.List.{drop-drop, drop_more, get_or-drop}
use Rattle.vlog_module.specs.declared.modules.Port.{Port}
use Rattle.vlog_module.specs.Parts.{Parts}
use Rattle.vlog_waves.specs.Variables.{port_bits}
use Rattle.vlog_waves.specs.Variables.Value.{one_bit, sixteen_bits}
use Rattle.vlog_waves.specs.declared.values.Values.{Values}
use Rattle.vlog_waves.specs.inside.Values.{AreAlike, Fits, event_room, values_held}

-- ---- ports

bits-step : (output : Bool) (ports : List Port) (inputs outputs : List Bool) (place i : ℕ) → i ≤ place
    → (if output then get_or (drop (place - i) outputs) 0 false ∷ port_bits ports (drop i inputs) (drop 1 (drop (place - i) outputs))
    else get_or (drop i inputs) 0 false ∷ port_bits ports (drop 1 (drop i inputs)) (drop (place - i) outputs))
    ≡ (if output then get_or outputs (place - i) false else get_or inputs i false)
    ∷ port_bits ports (drop (if output then i else i + 1) inputs) (drop (place + 1 - (if output then i else i + 1)) outputs)
bits-step true ports inputs outputs place i within =
    let here : place - i + 0 ≡ place - i = omega arith in
    let next : place - i + 1 ≡ place + 1 - i = omega arith in
    ap₂ (λ (bit : Bool) (rest : List Bool). bit ∷ port_bits ports (drop i inputs) rest) (get_or-drop (place - i) outputs 0 false ∙ ap (λ n. get_or outputs n false) here)
    (drop-drop 1 (place - i) outputs ∙ ap (λ n. drop n outputs) next)
bits-step false ports inputs outputs place i within =
    let here : i + 0 ≡ i = omega arith in
    let same : place - i ≡ place + 1 - (i + 1) = omega arith in
    ap₂ (λ (bit : Bool) (rest : List Bool). bit ∷ port_bits ports rest (drop (place - i) outputs)) (get_or-drop i inputs 0 false ∙ ap (λ n. get_or inputs n false) here)
    (drop-drop 1 i inputs)
    ∙ ap (λ n. get_or inputs i false ∷ port_bits ports (drop (i + 1) inputs) (drop n outputs)) same

-- the bits of the ports from an index on: the first one, and those after it
pub bits-cut : (ports : List Port) (inputs outputs : List Bool) (place i : ℕ) (d : Port) → place < length ports → i ≤ place
    → port_bits (drop place ports) (drop i inputs) (drop (place - i) outputs)
    ≡ (if (get_or ports place d).output then get_or outputs (place - i) false else get_or inputs i false)
    ∷ port_bits (drop (place + 1) ports) (drop (if (get_or ports place d).output then i else i + 1) inputs)
    (drop (place + 1 - (if (get_or ports place d).output then i else i + 1)) outputs)
bits-cut ports inputs outputs place i d within few =
    ap (λ (rest : List Port). port_bits rest (drop i inputs) (drop (place - i) outputs)) (drop_more ports place d within)
    ∙ bits-step (get_or ports place d).output (drop (place + 1) ports) inputs outputs place i few

-- the same by the bit and the next input
pub bits-next : (ports : List Port) (inputs outputs : List Bool) (place i next : ℕ) (d : Port) (bit : Bool) → place < length ports → i ≤ place
    → bit ≡ (if (get_or ports place d).output then get_or outputs (place - i) false else get_or inputs i false)
    → next ≡ (if (get_or ports place d).output then i else i + 1)
    → port_bits (drop place ports) (drop i inputs) (drop (place - i) outputs) ≡ bit ∷ port_bits (drop (place + 1) ports) (drop next inputs) (drop (place + 1 - next) outputs)
bits-next ports inputs outputs place i next d bit within few bit_is next_is =
    bits-cut ports inputs outputs place i d within few
    ∙ ap₂ (λ (bit : Bool) (n : ℕ). bit ∷ port_bits (drop (place + 1) ports) (drop n inputs) (drop (place + 1 - n) outputs)) (sym bit_is) (sym next_is)

-- there are no more inputs than ports
pub next-within : (output : Bool) (place i next : ℕ) → next ≡ (if output then i else i + 1) → i ≤ place → next ≤ place + 1
next-within true place i next is few = omega (arith, is, few)
next-within false place i next is few = omega (arith, is, few)

-- ---- as many values

pub fits-alike : (m : Parts) (old new : Values) → AreAlike old new → Fits m old → Fits m new
fits-alike m old new alike fits = record {
  ports = alike.ports ∙ fits.ports;
  registers = alike.registers ∙ fits.registers;
  words = alike.words ∙ fits.words;
  wires = alike.wires ∙ fits.wires;
}

-- what is like the second of two alike is like the first
pub alike-back : (first second third : Values) → AreAlike first second → AreAlike second third → AreAlike third first
alike-back first second third one two = record {
  ports = sym (two.ports ∙ one.ports);
  registers = sym (two.registers ∙ one.registers);
  words = sym (two.words ∙ one.words);
  wires = sym (two.wires ∙ one.wires);
}

pub room-alike : (old new : Values) → AreAlike old new → event_room new ≡ event_room old
room-alike old new alike =
    omega (
      arith,
      alike.ports,
      alike.registers,
      alike.words,
      alike.wires,
      old.ports.ok.0,
      old.registers.ok.0,
      old.words.ok.0,
      old.wires.ok.0,
      new.ports.ok.0,
      new.registers.ok.0,
      new.words.ok.0,
      new.wires.ok.0,
    )

-- values that fit the same module are alike
pub alike-fitting : (m : Parts) (old new : Values) → Fits m old → Fits m new → AreAlike old new
alike-fitting m old new first second = record {
  ports = second.ports ∙ sym first.ports;
  registers = second.registers ∙ sym first.registers;
  words = second.words ∙ sym first.words;
  wires = second.wires ∙ sym first.wires;
}

-- values by their parts
pub held-parts : (values : Values) (ports registers : List Bool) (words : List ℕ) (wires : List Bool) → values.ports.items ≡ ports → values.registers.items ≡ registers → values.words.items ≡ words → values.wires.items ≡ wires
    → values_held values ≡ map one_bit ports ++ (map one_bit registers ++ (map sixteen_bits words ++ map one_bit wires))
held-parts values ports registers words wires one two three four =
    ap₂ (λ (a b : List Bool). map one_bit a ++ (map one_bit b ++ (map sixteen_bits values.words.items ++ map one_bit values.wires.items))) one two
    ∙ ap₂ (λ (c : List ℕ) (d : List Bool). map one_bit ports ++ (map one_bit registers ++ (map sixteen_bits c ++ map one_bit d))) three four

-- When a fabric and its module hold the same values.
use Rattle.std.specs.Prelude.{◌≡◌, ℕ, Bool, true, List, map, Some, Contains}
use Rattle.bit_plane.specs.BitList.{word_of}
use Rattle.vlog_module.specs.Maps.{value_in}
use Rattle.vlog_semantics.specs.Named.{names_of, values_of}
use Rattle.vlog_semantics.specs.declared.event.Event.{Event as ModuleEvent}
use Rattle.vlog_semantics.specs.Entries.{Entry as ModuleEntry}
use Rattle.fabric_model.specs.declared.input_port.InputPort.{InputPort}
use Rattle.fabric_model.specs.Fabric.{Fabric, inputs_of}
use Rattle.fabric_model.specs.Outputs.{Output, outputs_of}
use Rattle.fabric_model.specs.Drivers.{is_driven}
use Rattle.fabric_model.specs.Values.{bit_in}
use Rattle.fabric_model.specs.Steps.{Event, Entry}
use Rattle.fabric_module.specs.Names.{input_port_name, output_name, register_name, read_name, memory_name, wire_name}

-- exactly these names have values, in this order, and the values are these
pub record HasValues {A : Type 0} (entries : List (List ℕ × A)) (names : List (List ℕ)) (values : List A) : Type 0 where
  pub named : names_of entries ≡ names
  pub valued : values_of entries ≡ values

-- exactly the classes of joined nets with a driver have a wire, and each wire has the value of its class
pub record HasWires (fabric : Fabric) (v : List Bool) (wires : List (List ℕ × Bool)) : Type 0 where
  pub each : (class : ℕ) → is_driven fabric class ≡ true → value_in wires (wire_name class) ≡ Some (bit_in v class)
  pub only : (wire : List ℕ × Bool) → Contains wires wire
      → (class : ℕ) × (is_driven fabric class ≡ true) × (wire.0 ≡ wire_name class) × (wire.1 ≡ bit_in v class)

-- An entry of a fabric and an entry of a module match, if input ports and outputs have these names: the module's inputs have
-- the values of the input ports, and its outputs the values of the outputs, in the order of the ports; its registers and memories have the values
-- of the state, and its wires the values of the nets.
pub record MatchesAs (input_name : InputPort → List ℕ) (name_of : Output → List ℕ) (fabric : Fabric) (entry : Entry) (other : ModuleEntry) : Type 0 where
  pub inputs : HasValues other.inputs (map input_name (inputs_of fabric)) entry.pins
  pub outputs : HasValues other.outputs (map name_of (outputs_of fabric)) entry.outputs
  pub registers : HasValues other.registers (map register_name fabric.registers) entry.state.bits
  pub words : HasValues other.words (map read_name fabric.rams) (map word_of entry.state.reads)
  pub memories : HasValues other.memories (map memory_name fabric.rams) (map (map word_of) entry.state.words)
  pub wires : HasWires fabric entry.v other.wires

-- the same with the port names of the module that is written for the fabric
abbrev pub Matches : Fabric → Entry → ModuleEntry → Type 0
Matches fabric entry other = MatchesAs input_port_name output_name fabric entry other

-- an event of a fabric as an event of its module
abbrev pub module_event : Event → ModuleEvent
module_event event = record { pin = event.pin; bit = event.bit }

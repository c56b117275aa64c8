-- What is kept of a design, and when it is the design of a fabric.
use Rattle.std.specs.Prelude.{◌≡◌, ℕ, ◌+◌, ◌*◌, ◌<◌, List, [], length, map, get_or}
use Rattle.bit_plane.specs.BitList.{word_of}
use Rattle.fabric_model.specs.declared.input_port.InputPort.{InputPort}
use Rattle.fabric_model.specs.Fabric.{Fabric, inputs_of}
use Rattle.graph_order.specs.Wiring.{IsWriteOrder}
use Rattle.fabric_model.specs.Wiring.{clocked_wiring}
use Rattle.fabric_model.specs.Outputs.{outputs_of}
use Rattle.fabric_wiring.specs.declared.parts.Parts.{Parts}
use Rattle.fabric_wiring.specs.Parts.{ArePartsOf}
use Rattle.fabric_wiring.specs.DriverLists.{DriverSet, AreDriversOf}
use Rattle.fabric_wiring.specs.declared.ends.ClockEnd.{ClockEnd}
use Rattle.fabric_wiring.specs.Ends.{AreEndsOf}
use Rattle.fabric_wiring.specs.declared.output_pins.Output.{Output}
use Rattle.fabric_wiring.specs.Outputs.{output_of}

-- the parts of a fabric, its input ports, its outputs and its drivers, the write order of its classes of joined nets (a topological order of
-- the combinational logic; if registers may be clocks, each class also comes after the registers that are clocks of what its value is
-- computed from), where the clock chain from each class ends, and the start words of the used RAMs, 256 for each
pub record Kept : Type 0 where
  pub parts : Parts
  pub inputs : List InputPort
  pub outputs : List Output
  pub drivers : DriverSet
  pub order : List ℕ
  pub ends : List ClockEnd
  pub words : List ℕ

-- a start word of the used RAM with an index
abbrev pub word_in : List ℕ → ℕ → ℕ → ℕ
word_in words ram word = get_or words (ram * 256 + word) 0

-- the words are the start words of the used RAMs of a fabric
pub record AreWordsOf (fabric : Fabric) (words : List ℕ) : Type 0 where
  pub count : length words ≡ length fabric.rams * 256
  pub each : (ram word : ℕ) → ram < length fabric.rams → word < 256 → word_in words ram word ≡ word_of (get_or (get_or fabric.start ram []) word [])

-- all that is kept belongs to a fabric
pub record IsKeptOf (fabric : Fabric) (design : Kept) : Type 0 where
  pub parts : ArePartsOf fabric design.parts
  pub inputs : design.inputs ≡ inputs_of fabric
  pub outputs : map output_of design.outputs ≡ outputs_of fabric
  pub drivers : AreDriversOf fabric design.drivers
  pub order : IsWriteOrder (clocked_wiring fabric) design.order
  pub ends : AreEndsOf fabric design.ends
  pub words : AreWordsOf fabric design.words

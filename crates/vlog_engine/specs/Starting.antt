-- A circuit at the start.
use Rattle.std.specs.Prelude.{◌≡◌, ◌<◌, ◌+◌, ◌*◌, ◌≤◌, ℕ, Bool, List, [], get_or, length, map, true}
use Rattle.vlog_engine.specs.Circuits.{AreWaves, IsCircuit, watched}
use Rattle.vlog_engine.specs.Lanes.{AreLanes, lane_bits, list_of}
use Rattle.vlog_engine.specs.Marks.{AreRising}
use Rattle.vlog_engine.specs.Passing.{IsSettled}
use Rattle.vlog_engine.specs.declared.start.Started.{Started}
use Rattle.vlog_engine.specs.declared.start.Wires.{Wires}
use Rattle.vlog_semantics.specs.Cells.{cells_of}
use Rattle.vlog_semantics.specs.declared.layout.SlotLayout.{SlotLayout}
use Rattle.vlog_semantics.specs.Steps.{operand_value}

-- the circuit is that of the layout, there is enough room, and the cells have these bits, the bits of these words, 0 and 1; the wires are
-- computed from these, and the asynchronous sets and resets are done
pub record IsStarted {V : Type 0} (lanes : ℕ) (at : V → ℕ → Bool) (layout : SlotLayout) (bits : List Bool) (words : List ℕ) (wires : Wires V) : Type 0 where
  pub circuit : IsCircuit layout.first_wire (length bits) (length words) layout.plan wires.circuit
  pub waves : AreWaves layout.input_count layout.first_wire (length bits) (length words) wires.circuit.roots.items layout.plan wires.circuit.waves
  pub rising : length wires.circuit.rising.items ≡ layout.input_count
  pub falling : length wires.circuit.falling.items ≡ layout.input_count
  pub cells_room : length wires.cells.items ≡ length bits + 16 * length words + 2
  pub flips_room : length layout.plan.flips.items ≤ length wires.changes.items
  pub settles_room : length layout.plan.settles.items ≤ length wires.changes.items
  pub settled : (lane count : ℕ) → lane < lanes → AreRising layout.first_wire count wires.circuit.gates.items → count ≤ length bits
      → IsSettled true layout.first_wire count wires.circuit.gates.items (watched wires.circuit) wires.circuit.settles.items (cells_of bits words) (lane_bits at lane wires.cells.items) wires.marks.items

-- also, each lane has its outputs, these words and these memories, and there is enough room for writes
pub record AreStarted {V : Type 0} (lanes : ℕ) (at : V → ℕ → Bool) (layout : SlotLayout) (bits : List Bool) (words : List ℕ) (memories : List (List ℕ)) (made : Started V) : Type 0 where
  pub wires : IsStarted lanes at layout bits words made.wires
  pub outputs : (lane : ℕ) → lane < lanes → lane_bits at lane made.outputs.items ≡ map (operand_value (lane_bits at lane made.wires.cells.items) []) made.wires.circuit.outputs.items
  pub outputs_room : length made.outputs.items ≡ length layout.plan.outputs.items
  pub words_are : (lane : ℕ) → lane < lanes → list_of lane made.words.items ≡ words
  pub lanes_are : AreLanes lanes (length words) made.words.items
  pub memories_are : (lane : ℕ) → lane < lanes → list_of lane made.memories.items ≡ memories
  pub memory_lanes : length made.memories.items ≡ lanes
  pub writes_room : length made.written.items ≡ length layout.plan.writes.items
  pub sixteen_bits : (place : ℕ) → get_or words place 0 < 65536

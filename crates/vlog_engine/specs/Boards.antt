-- The state of a module that runs in lanes, and what a call does to it.
use Rattle.std.specs.Prelude.{◌≡◌, ◌<◌, ◌≤◌, ℕ, Bool, true, false, List, [], length, map, vec_len, if◌then◌else◌}
use Rattle.vlog_module.specs.Parts.{Parts}
use Rattle.vlog_module.specs.WellFormed.{IsModule}
use Rattle.vlog_semantics.specs.Cells.{cells_of}
use Rattle.vlog_semantics.specs.Entries.{Entry}
use Rattle.vlog_semantics.specs.Laying.{IsLaidOut, ShowsEntry, bit_count}
use Rattle.vlog_semantics.specs.Named.{values_of}
use Rattle.vlog_semantics.specs.Run.{readable}
use Rattle.vlog_semantics.specs.Steps.{operand_value}
use Rattle.vlog_engine.specs.declared.board.Board.{Board}
use Rattle.vlog_engine.specs.declared.groups.Group.{Group}
use Rattle.vlog_engine.specs.declared.value.Value.{Ghosts}
use Rattle.vlog_engine.specs.Circuits.{shown_by, watched}
use Rattle.vlog_engine.specs.Groups.{IsGroup}
use Rattle.vlog_engine.specs.StepKinds.{Step}
use Rattle.vlog_engine.specs.Lanes.{lane_bits, list_of}
use Rattle.vlog_engine.specs.Marks.{AreRising, IsTracked}
use Rattle.vlog_engine.specs.Passing.{IsClocked, IsSettled}

-- ---- the state of a lane

abbrev pub cells_in : {V : Type 0} {g : Ghosts V} → Board V g → ℕ → List Bool
cells_in {g = g} board lane = lane_bits g.at lane board.cells.items

abbrev pub words_in : {V : Type 0} {g : Ghosts V} → Board V g → ℕ → List ℕ
words_in board lane = list_of lane board.words.items

abbrev pub memories_in : {V : Type 0} {g : Ghosts V} → Board V g → ℕ → List (List ℕ)
memories_in board lane = list_of lane board.memories.items

abbrev pub outputs_in : {V : Type 0} {g : Ghosts V} → Board V g → ℕ → List Bool
outputs_in {g = g} board lane = lane_bits g.at lane board.outputs.items

-- each wire of a lane that isn't marked has its value, and each flip-flop that isn't marked leaves its register as it is
abbrev pub IsTrackedIn : {V : Type 0} {g : Ghosts V} → Board V g → ℕ → Type 0
IsTrackedIn board lane = IsTracked (watched board.circuit) (cells_in board lane) board.marks.items

-- the board has the slots of the module, and the cells of a lane have the values of the entry
pub record Shows {V : Type 0} {g : Ghosts V} (board : Board V g) (lane : ℕ) (m : Parts) (entry : Entry) : Type 0 where
  pub within : lane < g.LANES
  pub whole : IsModule m
  pub laid_out : IsLaidOut m board.layout
  pub bit_count : board.circuit.bits ≡ bit_count m
  pub cells : shown_by board.circuit.roots.items (cells_in board lane) ≡ cells_of (values_of (readable entry).bits) (words_in board lane)
  pub shown : ShowsEntry m entry (values_of (readable entry).bits) (words_in board lane) (memories_in board lane) (outputs_in board lane)
  pub tracked : IsTrackedIn board lane

-- how many inputs the module has
abbrev pub input_count : {V : Type 0} {g : Ghosts V} → Board V g → ℕ
input_count board = board.layout.input_count

-- ---- what a call does

-- the board has the same slots and the same circuit as before
pub record StaysLaidOut {V : Type 0} {g : Ghosts V} (before after : Board V g) : Type 0 where
  pub layout : after.layout ≡ before.layout
  pub circuit : after.circuit ≡ before.circuit
  pub words_room : vec_len after.next_words ≡ vec_len before.next_words

-- the lane's state doesn't change
pub record IsIdleIn {V : Type 0} {g : Ghosts V} (lane : ℕ) (before after : Board V g) : Type 0 where
  pub cells : cells_in after lane ≡ cells_in before lane
  pub words : words_in after lane ≡ words_in before lane
  pub memories : memories_in after lane ≡ memories_in before lane
  pub outputs : outputs_in after lane ≡ outputs_in before lane
  pub tracked : (first count : ℕ) → AreRising first count before.circuit.gates.items → count ≤ length (cells_in before lane) → IsTrackedIn before lane → IsTrackedIn after lane

-- the first half of a step: the clocked items, and then the input of an event
pub record IsClockedIn {V : Type 0} {g : Ghosts V} (step : Step) (lane : ℕ) (before after : Board V g) : Type 0 where
  pub group : Group
  pub grouped : IsGroup step before.layout.first_wire before.circuit.bits (vec_len before.next_words) before.circuit.roots.items before.layout.plan group
  pub clocked : IsTrackedIn before lane → IsClocked true before.circuit.bits step group (words_in before lane) (words_in after lane) (memories_in before lane) (memories_in after lane) (cells_in before lane) (cells_in after lane)
  pub tracked : (first count : ℕ) → AreRising first count before.circuit.gates.items → count ≤ length (cells_in before lane) → IsTrackedIn before lane → IsTrackedIn after lane

-- the second half: the wires, and then the asynchronous sets and resets of registers
pub record IsSettledIn {V : Type 0} {g : Ghosts V} (active : Bool) (lane : ℕ) (before after : Board V g) : Type 0 where
  pub words : words_in after lane ≡ words_in before lane
  pub memories : memories_in after lane ≡ memories_in before lane
  pub outputs : outputs_in after lane ≡ outputs_in before lane
  pub idle : active ≡ false → cells_in after lane ≡ cells_in before lane
  pub settled : (first count : ℕ) → AreRising first count before.circuit.gates.items → count ≤ length (cells_in before lane) → IsTrackedIn before lane
      → IsSettled active first count before.circuit.gates.items (watched before.circuit) before.circuit.settles.items (cells_in before lane) (cells_in after lane) after.marks.items

-- the outputs
pub record IsShownIn {V : Type 0} {g : Ghosts V} (active : Bool) (lane : ℕ) (before after : Board V g) : Type 0 where
  pub outputs : outputs_in after lane ≡ (if active then map (operand_value (cells_in before lane) []) before.circuit.outputs.items else outputs_in before lane)
  pub cells : cells_in after lane ≡ cells_in before lane
  pub words : words_in after lane ≡ words_in before lane
  pub memories : memories_in after lane ≡ memories_in before lane
  pub marks : after.marks.items ≡ before.marks.items

-- a whole step
pub record IsChangedIn {V : Type 0} {g : Ghosts V} (step : Step) (lane : ℕ) (before after : Board V g) : Type 0 where
  pub group : Group
  pub grouped : IsGroup step before.layout.first_wire before.circuit.bits (vec_len before.next_words) before.circuit.roots.items before.layout.plan group
  -- the cells between the halves
  pub between : List Bool
  pub size : length between ≡ length (cells_in before lane)
  pub clocked : IsTrackedIn before lane → IsClocked true before.circuit.bits step group (words_in before lane) (words_in after lane) (memories_in before lane) (memories_in after lane) (cells_in before lane) between
  pub settled : (first count : ℕ) → AreRising first count before.circuit.gates.items → count ≤ length (cells_in before lane) → IsTrackedIn before lane
      → IsSettled true first count before.circuit.gates.items (watched before.circuit) before.circuit.settles.items between (cells_in after lane) after.marks.items
  pub outputs : outputs_in after lane ≡ map (operand_value (cells_in after lane) []) before.circuit.outputs.items

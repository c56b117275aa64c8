-- What the two halves of a step do to cells.
use Rattle.std.specs.Prelude.{◌≡◌, ◌<◌, ◌+◌, ◌*◌, ℕ, Bool, false, true, List, [], fold, length, map, if◌then◌else◌}
use Rattle.vlog_semantics.specs.Cells.{cell_at}
use Rattle.vlog_semantics.specs.Steps.{flip_slot, put_written, read_slot, settle_slot, written_by}
use Rattle.vlog_semantics.specs.declared.gates.Gate.{Gate}
use Rattle.vlog_semantics.specs.declared.plan.Settle.{Settle}
use Rattle.vlog_engine.specs.StepKinds.{Step, pinned, slots_of}
use Rattle.vlog_engine.specs.declared.groups.Group.{Group}
use Rattle.vlog_engine.specs.Circuits.{ArePartsAt}
use Rattle.vlog_engine.specs.Flips.{flip_flops}
use Rattle.vlog_engine.specs.Marks.{IsEven, IsTracked, StaySources, gate_at}

-- in an active lane, the registers of 16 bits and the memories have what reads and writes assign, and cells have the bits of the registers
pub record IsStored (active : Bool) (bits : ℕ) (step : Step) (group : Group) (words next_words : List ℕ) (memories next_memories : List (List ℕ)) (before after : List Bool) : Type 0 where
  pub words_are : next_words ≡ (if active then fold (read_slot (slots_of step) before [] memories) words group.reads.items else words)
  pub memories_are : next_memories ≡ (if active then fold put_written memories (map (written_by (slots_of step) before [] memories) group.writes.items) else memories)
  pub size : length after ≡ length before
  pub parts : ArePartsAt bits words before → ArePartsAt bits next_words after
  pub same : (cell : ℕ) → (cell < bits + 16 * length words → cell < bits) → cell_at after cell ≡ cell_at before cell
  pub idle : active ≡ false → after ≡ before

-- also, the registers of one bit have what flip-flops assign, and the input of an event has its bit
pub record IsClocked (active : Bool) (bits : ℕ) (step : Step) (group : Group) (words next_words : List ℕ) (memories next_memories : List (List ℕ)) (before after : List Bool) : Type 0 where
  -- the cells after those of registers of 16 bits are written
  pub stored : List Bool
  pub known : IsStored active bits step group words next_words memories next_memories before stored
  pub are : after ≡ (if active then pinned step (fold (flip_slot (slots_of step) before []) stored (flip_flops group.flips.items)) else stored)

-- in an active lane, the wires are up to date; then the asynchronous sets and resets of registers are done
pub record IsSettled (active : Bool) (first count : ℕ) (gates watched : List Gate) (settles : List Settle) (before after : List Bool) (marks : List ℕ) : Type 0 where
  -- the cells after those of wires are computed
  pub wired : List Bool
  pub size : length wired ≡ length before
  pub same : StaySources first count before wired
  pub even : active ≡ true → (place : ℕ) → place < length gates → IsEven wired (gate_at gates place)
  pub idle : active ≡ false → wired ≡ before
  pub are : after ≡ (if active then fold (settle_slot wired) wired settles else wired)
  pub tracked : IsTracked watched after marks

-- What items over slots do to the bits, words and memories in the slots.
use Rattle.std.specs.Prelude.{ℕ, nat_le, nat_lt, ◌-◌, take, Bool, false, ◌&&◌, ◌==◌, List, [], Option, Some, None, fold, map, get_or, slice_set, if◌then◌else◌}
use Rattle.vlog_semantics.specs.declared.event.Event.{Event}
use Rattle.vlog_semantics.specs.declared.plan.Operand.{Operand}
use Rattle.vlog_semantics.specs.declared.plan.Operand.TheVariants.{Constant, Slot, Part}
use Rattle.vlog_semantics.specs.declared.plan.Table.{Table}
use Rattle.vlog_semantics.specs.declared.plan.Rule.{Rule}
use Rattle.vlog_semantics.specs.declared.plan.Rule.TheVariants.{Copy, Lookup, Majority, Choose}
use Rattle.vlog_semantics.specs.declared.plan.Wire.{Wire}
use Rattle.vlog_semantics.specs.declared.plan.Edge.{Edge}
use Rattle.vlog_semantics.specs.declared.plan.FlipFlop.{FlipFlop}
use Rattle.vlog_semantics.specs.declared.plan.Settle.{Settle}
use Rattle.vlog_semantics.specs.declared.plan.MemoryPort.{MemoryPort}
use Rattle.vlog_semantics.specs.declared.plan.Taken.{Taken}
use Rattle.vlog_semantics.specs.declared.plan.Taken.TheVariants.{Word, Narrow}
use Rattle.vlog_semantics.specs.declared.plan.Read.{Read}
use Rattle.vlog_semantics.specs.declared.plan.Kept.{Kept}
use Rattle.vlog_semantics.specs.declared.plan.Kept.TheVariants.{Masked, Outside}
use Rattle.vlog_semantics.specs.declared.plan.Write.{Write}
use Rattle.vlog_semantics.specs.declared.plan.Written.{Written}
use Rattle.vlog_semantics.specs.declared.plan.Plan.{Plan}
use Rattle.vlog_semantics.specs.Run.{has_edge, is_edge, masked, moved_down, moved_up}
use Rattle.vlog_semantics.specs.Values.{bit_of, majority, number_of}

abbrev pub operand_value : List Bool → List ℕ → Operand → Bool
operand_value bits words (Constant bit) = bit
operand_value bits words (Slot slot) = get_or bits slot false
operand_value bits words (Part word k) = bit_of (get_or words word 0) k

abbrev pub operands_value : List Bool → List ℕ → List Operand → ℕ
operands_value bits words operands = number_of (map (operand_value bits words) operands)

abbrev pub table_value : List Bool → List ℕ → Table → Bool
table_value bits words table = bit_of table.word (operands_value bits words table.ins)

abbrev pub rule_value : List Bool → List ℕ → Rule → Bool
rule_value bits words (Copy operand) = operand_value bits words operand
rule_value bits words (Lookup table) = table_value bits words table
rule_value bits words (Majority a b c) = majority (operand_value bits words a) (operand_value bits words b) (operand_value bits words c)
rule_value bits words (Choose reset set target) = if operand_value bits words reset then set else operand_value bits words target

-- the value of a wire is computed
abbrev pub wire_slot : List ℕ → List Bool → Wire → List Bool
wire_slot words bits wire = slice_set bits wire.slot (rule_value bits words wire.rule)

-- ---- edges

-- Which clocked items over slots have their edge: given whether it is the falling one, and the slot of its clock, whether an item has it.
abbrev pub SlotEdges : Type 0
SlotEdges = Bool → ℕ → Bool

-- the edges of an event
abbrev pub slots_by : Event → SlotEdges
slots_by event falling slot = (slot == event.pin) && is_edge falling event.bit

-- whether a slot is one of the registers, which stand from slot `first` up to slot `end`
abbrev pub is_between : ℕ → ℕ → ℕ → Bool
is_between first end slot = nat_le first slot && nat_lt slot end

-- the edges of these registers between two moments with these bits
abbrev pub slots_between : ℕ → ℕ → List Bool → List Bool → SlotEdges
slots_between first end before after falling slot =
    is_between first end slot && has_edge falling (get_or (take end before) slot false) (get_or (take end after) slot false)

-- whether an item with this edge has it
abbrev pub is_at : SlotEdges → Edge → Bool
is_at edges edge = edges edge.falling edge.clock

-- whether an event is this edge
abbrev pub is_edge_of : Event → Edge → Bool
is_edge_of event edge = is_at (slots_by event) edge

abbrev pub flip_slot : SlotEdges → List Bool → List ℕ → List Bool → FlipFlop → List Bool
flip_slot edges bits words next flip =
    if is_at edges flip.edge && operand_value bits words flip.enable
    then slice_set next flip.target (if operand_value bits words flip.reset then flip.set else table_value bits words flip.table)
    else next

-- ---- memories

-- whether a port of a memory acts
abbrev pub is_acting : SlotEdges → List Bool → List ℕ → MemoryPort → Bool
is_acting edges bits words port =
    is_at edges port.edge && operand_value bits words port.clock_enable && operand_value bits words port.enable

abbrev pub word_in : List (List ℕ) → ℕ → ℕ → ℕ
word_in memories memory address = get_or (get_or memories memory []) address 0

-- what a read takes of a word
abbrev pub taken_word : List Bool → List ℕ → Taken → ℕ → ℕ
taken_word bits words Word word = word
taken_word bits words (Narrow field) word = moved_down word (operands_value bits words field.shift) field.pattern

abbrev pub read_slot : SlotEdges → List Bool → List ℕ → List (List ℕ) → List ℕ → Read → List ℕ
read_slot edges bits words memories next read =
    if is_acting edges bits words read.port
    then slice_set next read.target (taken_word bits words read.taken (word_in memories read.port.memory (operands_value bits words read.port.address)))
    else next

-- the mask of the bits of a word that a write leaves as they are
abbrev pub kept_mask : List Bool → List ℕ → Kept → ℕ
kept_mask bits words (Masked mask) = operands_value bits words mask
kept_mask bits words (Outside field) = 65535 - moved_up field.pattern (operands_value bits words field.shift)

-- the word that a write writes, if its port acts
abbrev pub written_by : SlotEdges → List Bool → List ℕ → List (List ℕ) → Write → Option Written
written_by edges bits words memories write =
    let address = operands_value bits words write.port.address in
    if is_acting edges bits words write.port
    then Some (record {
      memory = write.port.memory;
      address = address;
      word = masked (word_in memories write.port.memory address) (kept_mask bits words write.kept) (operands_value bits words write.bits);
    })
    else None

abbrev pub set_word : List (List ℕ) → ℕ → ℕ → ℕ → List (List ℕ)
set_word memories memory address word = slice_set memories memory (slice_set (get_or memories memory []) address word)

-- a word is written to a memory, if there is one
abbrev pub put_written : List (List ℕ) → Option Written → List (List ℕ)
put_written memories (Some written) = set_word memories written.memory written.address written.word
put_written memories None = memories

-- ---- wires, and asynchronous sets and resets

-- the asynchronous set or reset of a register, by the wire's value in `bits`
abbrev pub settle_slot : List Bool → List Bool → Settle → List Bool
settle_slot bits next settle = if get_or bits settle.wire false then slice_set next settle.target settle.set else next

abbrev pub settle_slots : List Settle → List Bool → List Bool
settle_slots settles bits = fold (settle_slot bits) bits settles

-- the wires are computed in the order of the text, then the asynchronous sets and resets of registers
abbrev pub settled_slots : Plan → List Wire → List ℕ → List Bool → List Bool
settled_slots plan wires words bits = settle_slots plan.settles.items (fold (wire_slot words) bits wires)

-- ---- a step: all items with an edge take effect

abbrev pub words_after : Plan → SlotEdges → List Bool → List ℕ → List (List ℕ) → List ℕ
words_after plan edges bits words memories = fold (read_slot edges bits words memories) words plan.reads.items

abbrev pub memories_after : Plan → SlotEdges → List Bool → List ℕ → List (List ℕ) → List (List ℕ)
memories_after plan edges bits words memories =
    fold put_written memories (map (written_by edges bits words memories) plan.writes.items)

abbrev pub flips_after : Plan → SlotEdges → List Bool → List ℕ → List Bool
flips_after plan edges bits words = fold (flip_slot edges bits words) bits plan.flips.items

-- the bits after the first step of an event that changes its input
abbrev pub bits_after : Plan → List Wire → Event → List Bool → List ℕ → List (List ℕ) → List Bool
bits_after plan wires event bits words memories =
    settled_slots plan wires (words_after plan (slots_by event) bits words memories)
    (slice_set (flips_after plan (slots_by event) bits words) event.pin event.bit)

-- the bits after a wave
abbrev pub bits_waved : Plan → List Wire → SlotEdges → List Bool → List ℕ → List (List ℕ) → List Bool
bits_waved plan wires edges bits words memories =
    settled_slots plan wires (words_after plan edges bits words memories) (flips_after plan edges bits words)

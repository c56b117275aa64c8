-- Items over slots, made from the items of a module by resolving their names.
use Rattle.std.specs.Option.{option_map, option_to_list}
use Rattle.std.specs.Prelude.{ℕ, Bool, false, List, [], ◌∷◌, ◌++◌, Option, Some, None, fold, map, flat_map, length, if◌then◌else◌}
use Rattle.index_search.specs.Places.{or_else}
use Rattle.vlog_module.specs.declared.atoms.Atom.{Atom}
use Rattle.vlog_module.specs.declared.atoms.Atom.TheVariants.{Bit, Whole, Part}
use Rattle.vlog_module.specs.declared.item.Lut.{Lut}
use Rattle.vlog_module.specs.declared.item.Right.{Right}
use Rattle.vlog_module.specs.declared.item.Right.TheVariants.{Bit as RightBit, Whole as RightWhole, Part as RightPart, Lut as RightLut, Majority as RightMajority, Choose as RightChoose}
use Rattle.vlog_module.specs.declared.item.Item.{Item}
use Rattle.vlog_module.specs.declared.item.Item.TheVariants.{Wire as WireItem, Assign, FlipFlop as FlipItem, AsyncFlipFlop as FlipAtOnceItem, AsyncReset as SetAtOnceItem, Read as ReadItem, ReadNarrow as ReadNarrowItem, Write as WriteItem, WriteNarrow as WriteNarrowItem}
use Rattle.vlog_module.specs.declared.modules.Port.{Port}
use Rattle.vlog_module.specs.Maps.{value_in}
use Rattle.vlog_semantics.specs.declared.plan.Operand.{Operand}
use Rattle.vlog_semantics.specs.declared.plan.Operand.TheVariants.{Constant, Slot, Part as PartOperand}
use Rattle.vlog_semantics.specs.declared.plan.Table.{Table}
use Rattle.vlog_semantics.specs.declared.plan.Rule.{Rule}
use Rattle.vlog_semantics.specs.declared.plan.Rule.TheVariants.{Copy, Lookup, Majority, Choose}
use Rattle.vlog_semantics.specs.declared.plan.Wire.{Wire}
use Rattle.vlog_semantics.specs.declared.plan.Edge.{Edge}
use Rattle.vlog_semantics.specs.declared.plan.FlipFlop.{FlipFlop}
use Rattle.vlog_semantics.specs.declared.plan.Settle.{Settle}
use Rattle.vlog_semantics.specs.declared.plan.MemoryPort.{MemoryPort}
use Rattle.vlog_semantics.specs.declared.plan.Field.{Field}
use Rattle.vlog_semantics.specs.declared.plan.Taken.{Taken}
use Rattle.vlog_semantics.specs.declared.plan.Taken.TheVariants.{Word, Narrow}
use Rattle.vlog_semantics.specs.declared.plan.Read.{Read}
use Rattle.vlog_semantics.specs.declared.plan.Kept.{Kept}
use Rattle.vlog_semantics.specs.declared.plan.Kept.TheVariants.{Masked, Outside}
use Rattle.vlog_semantics.specs.declared.plan.Write.{Write}
use Rattle.vlog_semantics.specs.Entries.{put}
use Rattle.vlog_semantics.specs.Numbered.{numbered}
use Rattle.vlog_semantics.specs.Run.{clock_of}

-- how names are resolved: to the slots of what atoms read, of registers and of memories, and to the indexes of inputs
pub record Places : Type 0 where
  -- the inputs, by their indexes
  pub pins : List ℕ → Option ℕ
  -- all names of one bit
  pub bits : List ℕ → Option ℕ
  -- the registers of one bit
  pub registers : List ℕ → Option ℕ
  -- the registers of 16 bits
  pub words : List ℕ → Option ℕ
  pub memories : List ℕ → Option ℕ

-- the slot of a clock: of an input, or of a register of one bit
abbrev pub clock_slot : Places → List ℕ → Option ℕ
clock_slot at clock = or_else (at.pins clock) (at.registers clock)

-- a name without a slot is the constant 0
abbrev pub slot_operand : Option ℕ → Operand
slot_operand (Some slot) = Slot slot
slot_operand None = Constant false

abbrev pub part_operand : Option ℕ → ℕ → Operand
part_operand (Some word) k = PartOperand word k
part_operand None k = Constant false

abbrev pub operand_of : (List ℕ → Option ℕ) → (List ℕ → Option ℕ) → Atom → Operand
operand_of bits words (Bit bit) = Constant bit
operand_of bits words (Whole name) = slot_operand (bits name)
operand_of bits words (Part name k) = part_operand (words name) k

abbrev pub operands_of : (List ℕ → Option ℕ) → (List ℕ → Option ℕ) → List Atom → List Operand
operands_of bits words atoms = map (operand_of bits words) atoms

abbrev pub table_of : (List ℕ → Option ℕ) → (List ℕ → Option ℕ) → Lut → Table
table_of bits words lut = record { word = lut.word; ins = operands_of bits words lut.ins }

abbrev pub rule_of : (List ℕ → Option ℕ) → (List ℕ → Option ℕ) → Right → Rule
rule_of bits words (RightBit bit) = Copy (Constant bit)
rule_of bits words (RightWhole name) = Copy (slot_operand (bits name))
rule_of bits words (RightPart name k) = Copy (part_operand (words name) k)
rule_of bits words (RightLut lut) = Lookup (table_of bits words lut)
rule_of bits words (RightMajority a b c) = Majority (operand_of bits words a) (operand_of bits words b) (operand_of bits words c)
rule_of bits words (RightChoose reset set target) = Choose (slot_operand (bits reset)) set (slot_operand (bits target))

-- the wires of items over slots; the names listed before have the first slots of one bit
abbrev pub wires_of : (List ℕ → Option ℕ) → List (List ℕ) → List Item → List Wire
wires_of words names [] = []
wires_of words names (WireItem name right ∷ items) =
    record { slot = length names; rule = rule_of (value_in (numbered 0 names)) words right } ∷ wires_of words (names ++ name ∷ []) items
wires_of words names (_ ∷ items) = wires_of words names items

-- an output that isn't assigned yet
abbrev pub blank_output : Port → List (List ℕ × Operand)
blank_output port = if port.output then (port.name, Constant false) ∷ [] else []

-- an output gets the atom that an item assigns
abbrev pub output_operand : (List ℕ → Option ℕ) → (List ℕ → Option ℕ) → List (List ℕ × Operand) → Item → List (List ℕ × Operand)
output_operand bits words outputs (Assign name value) = put outputs name (operand_of bits words value)
output_operand bits words outputs _ = outputs

-- what outputs are assigned, in the order of the ports
abbrev pub outputs_of : (List ℕ → Option ℕ) → (List ℕ → Option ℕ) → List Port → List Item → List (List ℕ × Operand)
outputs_of bits words ports items = fold (output_operand bits words) (flat_map blank_output ports) items

-- what is made of two numbers, if both are there
abbrev pub of_two : {A : Type 0} → Option ℕ → Option ℕ → (ℕ → ℕ → A) → Option A
of_two (Some a) (Some b) make = Some (make a b)
of_two (Some a) None make = None
of_two None b make = None

-- a flip-flop with asynchronous set or reset at its clock edge (`SB_DFFES`, `SB_DFFER`)
abbrev pub flip_at_once_of : Places → Item → Option FlipFlop
flip_at_once_of at (FlipAtOnceItem falling clock reset set target enable lut) =
    of_two (clock_slot at clock) (at.registers target) (λ edge_slot slot. record {
      edge = record { clock = edge_slot; falling = falling };
      enable = operand_of at.bits at.words enable;
      reset = slot_operand (at.bits reset);
      set = set;
      target = slot;
      table = table_of at.bits at.words lut;
    })
flip_at_once_of at _ = None

abbrev pub flip_of : Places → Item → Option FlipFlop
flip_of at (FlipItem falling clock enable reset set target lut) =
    of_two (clock_slot at clock) (at.registers target) (λ edge_slot slot. record {
      edge = record { clock = edge_slot; falling = falling };
      enable = operand_of at.bits at.words enable;
      reset = operand_of at.bits at.words reset;
      set = set;
      target = slot;
      table = table_of at.bits at.words lut;
    })
flip_of at item = flip_at_once_of at item

-- the flip-flop at a clock edge during its asynchronous set or reset: that enables it, whatever its clock enable is
abbrev pub at_reset : FlipFlop → FlipFlop
at_reset flip = record {
  edge = flip.edge;
  enable = flip.reset;
  reset = flip.reset;
  set = flip.set;
  target = flip.target;
  table = flip.table;
}

-- what a flip-flop does at its edge, step by step; one with asynchronous set or reset is also set or reset there if it isn't enabled
abbrev pub flip_steps : Places → Item → List FlipFlop
flip_steps at item = option_to_list (flip_of at item) ++ option_to_list (option_map at_reset (flip_at_once_of at item))

-- the asynchronous set or reset of a register
abbrev pub settle_over : Places → List ℕ → Bool → List ℕ → Option Settle
settle_over at reset set target = of_two (at.bits reset) (at.registers target) (λ wire slot. record { wire = wire; set = set; target = slot })

abbrev pub settle_of : Places → Item → Option Settle
settle_of at (FlipAtOnceItem falling clock reset set target enable lut) = settle_over at reset set target
settle_of at (SetAtOnceItem reset set target) = settle_over at reset set target
settle_of at _ = None

-- a port of a memory, if its clock and the memory have slots (`SB_RAM40_4K`)
abbrev pub port_of : Places → Bool → List ℕ → Atom → Atom → List ℕ → List Atom → Option MemoryPort
port_of at falling clock clock_enable enable memory address =
    of_two (clock_slot at clock) (at.memories memory) (λ edge_slot place. record {
      edge = record { clock = edge_slot; falling = falling };
      clock_enable = operand_of at.bits at.words clock_enable;
      enable = operand_of at.bits at.words enable;
      memory = place;
      address = operands_of at.bits at.words address;
    })

abbrev pub field_of : Places → List Atom → ℕ → Field
field_of at shift pattern = record { shift = operands_of at.bits at.words shift; pattern = pattern }

-- a read through a port, if there are the port and the register
abbrev pub read_over : Option MemoryPort → Option ℕ → Taken → Option Read
read_over (Some port) (Some slot) taken = Some (record { port = port; target = slot; taken = taken })
read_over (Some port) None taken = None
read_over None slot taken = None

abbrev pub narrow_read_of : Places → Item → Option Read
narrow_read_of at (ReadNarrowItem falling clock clock_enable enable target memory address shift pattern) =
    read_over (port_of at falling clock clock_enable enable memory address) (at.words target) (Narrow (field_of at shift pattern))
narrow_read_of at _ = None

abbrev pub read_of : Places → Item → Option Read
read_of at (ReadItem falling clock clock_enable enable target memory address) =
    read_over (port_of at falling clock clock_enable enable memory address) (at.words target) Word
read_of at item = narrow_read_of at item

-- a write through a port, if there is the port; `kept` says which bits stay
abbrev pub write_over : Places → Option MemoryPort → Kept → List Atom → Option Write
write_over at (Some port) kept bits = Some (record { port = port; kept = kept; bits = operands_of at.bits at.words bits })
write_over at None kept bits = None

abbrev pub narrow_write_of : Places → Item → Option Write
narrow_write_of at (WriteNarrowItem falling clock clock_enable enable memory address pattern shift bits) =
    write_over at (port_of at falling clock clock_enable enable memory address) (Outside (field_of at shift pattern)) bits
narrow_write_of at _ = None

abbrev pub write_of : Places → Item → Option Write
write_of at (WriteItem falling clock clock_enable enable memory address mask bits) =
    write_over at (port_of at falling clock clock_enable enable memory address) (Masked (operands_of at.bits at.words mask)) bits
write_of at item = narrow_write_of at item

-- ---- waves

-- an edge of a clock that has a slot
abbrev pub edge_of : Bool → Option ℕ → Option Edge
edge_of falling (Some slot) = Some (record { clock = slot; falling = falling })
edge_of falling None = None

-- the edge of a clock that is a register
abbrev pub register_edge : Places → Option (Bool × List ℕ) → Option Edge
register_edge at (Some clock) = edge_of clock.0 (at.registers clock.1)
register_edge at None = None

-- the edge of an item whose clock is a register
abbrev pub wave_edge : Places → Item → Option Edge
wave_edge at item = register_edge at (clock_of item)

-- Items over cells: each operand is a cell that is no alias. There are `bits` names of one bit and `words` registers of 16 bits.
use Rattle.std.specs.Prelude.{ℕ, List, map}
use Rattle.vlog_semantics.specs.Cells.{operand_cell}
use Rattle.vlog_semantics.specs.declared.gates.Gate.{Gate}
use Rattle.vlog_semantics.specs.declared.plan.Operand.{Operand}
use Rattle.vlog_semantics.specs.declared.plan.Operand.TheVariants.{Slot}
use Rattle.vlog_semantics.specs.declared.plan.Table.{Table}
use Rattle.vlog_semantics.specs.declared.plan.FlipFlop.{FlipFlop}
use Rattle.vlog_semantics.specs.declared.plan.Settle.{Settle}
use Rattle.vlog_semantics.specs.declared.plan.MemoryPort.{MemoryPort}
use Rattle.vlog_semantics.specs.declared.plan.Field.{Field}
use Rattle.vlog_semantics.specs.declared.plan.Taken.{Taken}
use Rattle.vlog_semantics.specs.declared.plan.Taken.TheVariants.{Word, Narrow}
use Rattle.vlog_semantics.specs.declared.plan.Read.{Read}
use Rattle.vlog_semantics.specs.declared.plan.Kept.{Kept}
use Rattle.vlog_semantics.specs.declared.plan.Kept.TheVariants.{Masked, Outside}
use Rattle.vlog_semantics.specs.declared.plan.Write.{Write}
use Rattle.vlog_engine.specs.Roots.{root}

abbrev pub cell_of : ℕ → ℕ → List ℕ → Operand → ℕ
cell_of bits words roots operand = root roots (operand_cell bits words operand)

abbrev pub resolved : ℕ → ℕ → List ℕ → Operand → Operand
resolved bits words roots operand = Slot (cell_of bits words roots operand)

abbrev pub resolved_table : ℕ → ℕ → List ℕ → Table → Table
resolved_table bits words roots table = record { word = table.word; ins = map (resolved bits words roots) table.ins }

abbrev pub resolved_flip : ℕ → ℕ → List ℕ → FlipFlop → FlipFlop
resolved_flip bits words roots flip = record {
  edge = flip.edge;
  enable = resolved bits words roots flip.enable;
  reset = resolved bits words roots flip.reset;
  set = flip.set;
  target = flip.target;
  table = resolved_table bits words roots flip.table;
}

abbrev pub resolved_settle : ℕ → ℕ → List ℕ → Settle → Settle
resolved_settle bits words roots settle = record { wire = cell_of bits words roots (Slot settle.wire); set = settle.set; target = settle.target }

abbrev pub resolved_port : ℕ → ℕ → List ℕ → MemoryPort → MemoryPort
resolved_port bits words roots port = record {
  edge = port.edge;
  clock_enable = resolved bits words roots port.clock_enable;
  enable = resolved bits words roots port.enable;
  memory = port.memory;
  address = map (resolved bits words roots) port.address;
}

abbrev pub resolved_field : ℕ → ℕ → List ℕ → Field → Field
resolved_field bits words roots field = record { shift = map (resolved bits words roots) field.shift; pattern = field.pattern }

abbrev pub resolved_taken : ℕ → ℕ → List ℕ → Taken → Taken
resolved_taken bits words roots Word = Word
resolved_taken bits words roots (Narrow field) = Narrow (resolved_field bits words roots field)

abbrev pub resolved_read : ℕ → ℕ → List ℕ → Read → Read
resolved_read bits words roots read = record {
  port = resolved_port bits words roots read.port;
  target = read.target;
  taken = resolved_taken bits words roots read.taken;
}

abbrev pub resolved_kept : ℕ → ℕ → List ℕ → Kept → Kept
resolved_kept bits words roots (Masked mask) = Masked (map (resolved bits words roots) mask)
resolved_kept bits words roots (Outside field) = Outside (resolved_field bits words roots field)

abbrev pub resolved_write : ℕ → ℕ → List ℕ → Write → Write
resolved_write bits words roots write = record {
  port = resolved_port bits words roots write.port;
  kept = resolved_kept bits words roots write.kept;
  bits = map (resolved bits words roots) write.bits;
}

-- a wire whose fan-in is cells that are no aliases
abbrev pub resolved_gate : List ℕ → Gate → Gate
resolved_gate roots gate = record { slot = gate.slot; ins = map (root roots) gate.ins; table = gate.table }

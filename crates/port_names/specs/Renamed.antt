-- A module under other names: each old name of a renaming is replaced by its new name, wherever it occurs.
use Rattle.std.specs.Prelude.{ℕ, List, map, unwrap_or}
use Rattle.vlog_module.specs.declared.atoms.Atom.{Atom}
use Rattle.vlog_module.specs.declared.atoms.Atom.TheVariants.{Bit, Whole, Part}
use Rattle.vlog_module.specs.declared.item.Lut.{Lut}
use Rattle.vlog_module.specs.declared.item.Right.{Right}
use Rattle.vlog_module.specs.declared.item.Right.TheVariants.{Bit as RightBit, Whole as RightWhole, Part as RightPart, Lut as RightLut, Majority, Choose}
use Rattle.vlog_module.specs.declared.item.Item.{Item}
use Rattle.vlog_module.specs.declared.item.Item.TheVariants.{Register, Word, Memory, Wire, Assign, FlipFlop, AsyncFlipFlop, AsyncReset, Read, ReadNarrow, Write, WriteNarrow, Start}
use Rattle.vlog_module.specs.declared.modules.Port.{Port}
use Rattle.vlog_module.specs.Maps.{value_in}
use Rattle.vlog_module.specs.Parts.{Parts}
use Rattle.vlog_semantics.specs.Entries.{Entry}

-- ---- names

-- the new name of a name, by pairs of an old name and its new one; a name that isn't listed stays
abbrev pub new_name : List (List ℕ × List ℕ) → List ℕ → List ℕ
new_name renaming name = unwrap_or (value_in renaming name) name

-- ---- the parts of a module, with each name replaced

abbrev pub renamed_atom : (List ℕ → List ℕ) → Atom → Atom
renamed_atom to (Bit bit) = Bit bit
renamed_atom to (Whole name) = Whole (to name)
renamed_atom to (Part name k) = Part (to name) k

abbrev pub renamed_atoms : (List ℕ → List ℕ) → List Atom → List Atom
renamed_atoms to atoms = map (renamed_atom to) atoms

abbrev pub renamed_lut : (List ℕ → List ℕ) → Lut → Lut
renamed_lut to lut = record { word = lut.word; ins = renamed_atoms to lut.ins }

abbrev pub renamed_right : (List ℕ → List ℕ) → Right → Right
renamed_right to (RightBit bit) = RightBit bit
renamed_right to (RightWhole name) = RightWhole (to name)
renamed_right to (RightPart name k) = RightPart (to name) k
renamed_right to (RightLut lut) = RightLut (renamed_lut to lut)
renamed_right to (Majority a b c) = Majority (renamed_atom to a) (renamed_atom to b) (renamed_atom to c)
renamed_right to (Choose reset set target) = Choose (to reset) set (to target)

abbrev pub renamed_item : (List ℕ → List ℕ) → Item → Item
renamed_item to (Register name start) = Register (to name) start
renamed_item to (Word name start) = Word (to name) start
renamed_item to (Memory name) = Memory (to name)
renamed_item to (Wire name right) = Wire (to name) (renamed_right to right)
renamed_item to (Assign name value) = Assign (to name) (renamed_atom to value)
renamed_item to (FlipFlop falling clock enable reset set target lut) =
    FlipFlop falling (to clock) (renamed_atom to enable) (renamed_atom to reset) set (to target) (renamed_lut to lut)
renamed_item to (AsyncFlipFlop falling clock reset set target enable lut) =
    AsyncFlipFlop falling (to clock) (to reset) set (to target) (renamed_atom to enable) (renamed_lut to lut)
renamed_item to (AsyncReset reset set target) = AsyncReset (to reset) set (to target)
renamed_item to (Read falling clock clock_enable enable target memory address) =
    Read falling (to clock) (renamed_atom to clock_enable) (renamed_atom to enable) (to target) (to memory) (renamed_atoms to address)
renamed_item to (ReadNarrow falling clock clock_enable enable target memory address shift pattern) =
    ReadNarrow falling (to clock) (renamed_atom to clock_enable) (renamed_atom to enable) (to target) (to memory)
    (renamed_atoms to address) (renamed_atoms to shift) pattern
renamed_item to (Write falling clock clock_enable enable memory address mask bits) =
    Write falling (to clock) (renamed_atom to clock_enable) (renamed_atom to enable) (to memory) (renamed_atoms to address)
    (renamed_atoms to mask) (renamed_atoms to bits)
renamed_item to (WriteNarrow falling clock clock_enable enable memory address pattern shift bits) =
    WriteNarrow falling (to clock) (renamed_atom to clock_enable) (renamed_atom to enable) (to memory) (renamed_atoms to address)
    pattern (renamed_atoms to shift) (renamed_atoms to bits)
renamed_item to (Start memory k word) = Start (to memory) k word

abbrev pub renamed_port : (List ℕ → List ℕ) → Port → Port
renamed_port to port = record { name = to port.name; output = port.output }

-- the module's own name stays
abbrev pub renamed_parts : (List ℕ → List ℕ) → Parts → Parts
renamed_parts to m = record {
  name = m.name;
  ports = map (renamed_port to) m.ports;
  items = map (renamed_item to) m.items;
}

-- ---- what a module holds, with each name replaced

abbrev pub renamed_values : {A : Type 0} → (List ℕ → List ℕ) → List (List ℕ × A) → List (List ℕ × A)
renamed_values to entries = map (λ entry. (to entry.0, entry.1)) entries

abbrev pub renamed_entry : (List ℕ → List ℕ) → Entry → Entry
renamed_entry to entry = record {
  inputs = renamed_values to entry.inputs;
  registers = renamed_values to entry.registers;
  words = renamed_values to entry.words;
  memories = renamed_values to entry.memories;
  wires = renamed_values to entry.wires;
  outputs = renamed_values to entry.outputs;
}

-- ---- by a renaming

-- the module with the new names of a renaming
abbrev pub renamed : List (List ℕ × List ℕ) → Parts → Parts
renamed renaming m = renamed_parts (new_name renaming) m

-- what a module holds, with the new names of a renaming
abbrev pub entry_renamed : List (List ℕ × List ℕ) → Entry → Entry
entry_renamed renaming entry = renamed_entry (new_name renaming) entry

-- Which slots and items over them are those of a module, and which values in the slots are those of an entry.
use Rattle.std.specs.Prelude.{◌≡◌, ◌+◌, ◌*◌, ℕ, Bool, List, ◌++◌, flat_map, fold, length, map}
use Rattle.vlog_module.specs.Parts.{Parts}
use Rattle.vlog_semantics.specs.declared.layout.Start.{Start}
use Rattle.vlog_semantics.specs.declared.layout.SlotLayout.{SlotLayout}
use Rattle.vlog_semantics.specs.Cells.{gate_of}
use Rattle.vlog_semantics.specs.Entries.{Entry}
use Rattle.vlog_semantics.specs.Found.{places_in}
use Rattle.vlog_semantics.specs.ModuleSlots.{IsNamed, IsPlan, module_wires, places_of, register_names, wire_names, wire_start, word_names}
use Rattle.vlog_semantics.specs.Named.{values_of}
use Rattle.vlog_semantics.specs.Run.{input_names, input_start, memory_start, readable, register_start, start_step, word_start}

-- how many names of one bit and how many registers of 16 bits a module has
abbrev pub bit_count : Parts → ℕ
bit_count m = length (input_names m.ports ++ register_names m.items ++ wire_names m.items)

abbrev pub word_count : Parts → ℕ
word_count m = length (word_names m.items)

-- the layout is that of the module: its plan, its wires, its names and its counts
pub record IsLaidOut (m : Parts) (layout : SlotLayout) : Type 0 where
  pub plan : IsPlan m layout.plan
  pub gates : layout.plan.gates.items ≡ map (gate_of (bit_count m) (word_count m)) (module_wires m)
  pub places : places_in layout.places ≡ places_of m
  pub input_count : layout.input_count ≡ length (input_names m.ports)
  pub first_wire : layout.first_wire ≡ length (input_names m.ports ++ register_names m.items)

-- the bits, words and memories in the slots of the module, and its outputs, have the values of the entry
pub record ShowsEntry (m : Parts) (entry : Entry) (bits : List Bool) (words : List ℕ) (memories : List (List ℕ)) (outputs : List Bool) : Type 0 where
  pub named : IsNamed m entry
  pub bits_are : bits ≡ values_of (readable entry).bits
  pub words_are : words ≡ values_of entry.words
  pub memories_are : memories ≡ values_of entry.memories
  pub outputs_are : outputs ≡ values_of entry.outputs

-- the module is laid out, and its slots have the start values; wires have no values yet
pub record Begins (m : Parts) (first : Start) : Type 0 where
  pub laid_out : IsLaidOut m first.layout
  pub bits : first.bits.items ≡ values_of (flat_map input_start m.ports ++ flat_map register_start m.items ++ flat_map wire_start m.items)
  pub words : first.words.items ≡ values_of (flat_map word_start m.items)
  pub memories : first.memories.items ≡ values_of (fold start_step (flat_map memory_start m.items) m.items)
  pub cells : length first.cells.items ≡ length first.bits.items + 16 * length first.words.items + 2

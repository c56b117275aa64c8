-- The slots of a module's names, and the module's items over slots.
use Rattle.std.specs.Prelude.{◌≡◌, ℕ, Bool, false, List, [], ◌∷◌, ◌++◌, flat_map, length}
use Rattle.std.specs.List.{filter_map}
use Rattle.vlog_module.specs.declared.item.Item.{Item}
use Rattle.vlog_module.specs.declared.item.Item.TheVariants.{Wire}
use Rattle.vlog_module.specs.Maps.{value_in}
use Rattle.vlog_module.specs.Parts.{Parts}
use Rattle.vlog_semantics.specs.declared.plan.Plan.{Plan}
use Rattle.vlog_semantics.specs.declared.plan.Wire.{Wire as WireOver}
use Rattle.vlog_semantics.specs.Entries.{Entry}
use Rattle.vlog_semantics.specs.Numbered.{numbered}
use Rattle.vlog_semantics.specs.Named.{names_of, values_of}
use Rattle.vlog_semantics.specs.Plans.{Places, flip_steps, outputs_of, read_of, settle_of, wires_of, write_of, wave_edge}
use Rattle.vlog_semantics.specs.Run.{input_names, memory_start, register_start, word_start}
use Rattle.vlog_semantics.specs.Steps.{SlotEdges, slots_between}

-- ---- the names of a module

abbrev pub register_names : List Item → List (List ℕ)
register_names items = names_of (flat_map register_start items)

abbrev pub word_names : List Item → List (List ℕ)
word_names items = names_of (flat_map word_start items)

abbrev pub memory_names : List Item → List (List ℕ)
memory_names items = names_of (flat_map memory_start items)

-- a wire that has no value yet
abbrev pub wire_start : Item → List (List ℕ × Bool)
wire_start (Wire name right) = (name, false) ∷ []
wire_start _ = []

abbrev pub wire_names : List Item → List (List ℕ)
wire_names items = names_of (flat_map wire_start items)

-- the names of the entry are those of the module
pub record IsNamed (m : Parts) (entry : Entry) : Type 0 where
  pub inputs : names_of entry.inputs ≡ input_names m.ports
  pub registers : names_of entry.registers ≡ register_names m.items
  pub words : names_of entry.words ≡ word_names m.items
  pub memories : names_of entry.memories ≡ memory_names m.items
  pub wires : names_of entry.wires ≡ wire_names m.items

-- ---- the plan of a module

-- names of one bit have slots in this order: inputs, registers, wires
abbrev pub places_of : Parts → Places
places_of m = record {
  pins = value_in (numbered 0 (input_names m.ports));
  bits = value_in (numbered 0 (input_names m.ports ++ register_names m.items ++ wire_names m.items));
  registers = value_in (numbered (length (input_names m.ports)) (register_names m.items));
  words = value_in (numbered 0 (word_names m.items));
  memories = value_in (numbered 0 (memory_names m.items));
}

-- the wires of the module over slots
abbrev pub module_wires : Parts → List WireOver
module_wires m = wires_of (places_of m).words (input_names m.ports ++ register_names m.items) m.items

-- the plan has the other items of the module over slots
pub record IsPlan (m : Parts) (plan : Plan) : Type 0 where
  pub outputs : plan.outputs.items ≡ values_of (outputs_of (places_of m).bits (places_of m).words m.ports m.items)
  pub flips : plan.flips.items ≡ flat_map (flip_steps (places_of m)) m.items
  pub settles : plan.settles.items ≡ filter_map (settle_of (places_of m)) m.items
  pub reads : plan.reads.items ≡ filter_map (read_of (places_of m)) m.items
  pub writes : plan.writes.items ≡ filter_map (write_of (places_of m)) m.items
  pub clocks : plan.clocks.items ≡ filter_map (wave_edge (places_of m)) m.items

-- ---- waves

-- the edges of a module's registers between two moments with these bits
abbrev pub wave_slots : Parts → List Bool → List Bool → SlotEdges
wave_slots m before after = slots_between (length (input_names m.ports)) (length (input_names m.ports ++ register_names m.items)) before after

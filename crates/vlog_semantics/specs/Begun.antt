-- What the names of a module have before the wires have values.
use Rattle.std.specs.Prelude.{◌≡◌, ◌++◌, flat_map, fold, length}
use Rattle.vlog_module.specs.Parts.{Parts}
use Rattle.vlog_semantics.specs.declared.names.Names.{Names}
use Rattle.vlog_semantics.specs.Found.{places_in}
use Rattle.vlog_semantics.specs.ModuleSlots.{places_of, register_names, wire_start}
use Rattle.vlog_semantics.specs.Named.{values_of}
use Rattle.vlog_semantics.specs.Plans.{wires_of}
use Rattle.vlog_semantics.specs.Run.{input_names, input_start, memory_start, register_start, start_step, word_start}

-- the slots, the values and the wires are those of the module
pub record IsBegun (m : Parts) (names : Names) : Type 0 where
  pub places : places_in names.places ≡ places_of m
  pub input_count : names.input_count ≡ length (input_names m.ports)
  pub first_wire : names.first_wire ≡ length (input_names m.ports ++ register_names m.items)
  pub bits : names.bits.items ≡ values_of (flat_map input_start m.ports ++ flat_map register_start m.items ++ flat_map wire_start m.items)
  pub words : names.words.items ≡ values_of (flat_map word_start m.items)
  pub memories : names.memories.items ≡ values_of (fold start_step (flat_map memory_start m.items) m.items)
  pub wires : names.wires.items ≡ wires_of (places_of m).words (input_names m.ports ++ register_names m.items) m.items

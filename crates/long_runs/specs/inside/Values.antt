-- The values that a line has.
use Rattle.std.specs.Prelude.{◌≡◌, Bool, true, flat_map}
use Rattle.vlog_module.specs.Parts.{Parts}
use Rattle.vlog_semantics.specs.Entries.{Entry}
use Rattle.vlog_semantics.specs.ModuleSlots.{register_names, word_names}
use Rattle.vlog_semantics.specs.Named.{names_of, values_of}
use Rattle.vlog_semantics.specs.Run.{output_start}
use Rattle.long_runs.specs.declared.seen.Seen.{Seen}

-- the values are those that the line of an entry has
pub record Sees (seen : Seen) (registers : Bool) (entry : Entry) : Type 0 where
  pub outputs : seen.outputs.items ≡ values_of entry.outputs
  pub bits : registers ≡ true → seen.registers.items ≡ values_of entry.registers
  pub words : registers ≡ true → seen.words.items ≡ values_of entry.words

-- what a line has of an entry has the names that the module gives
pub record HasNames (m : Parts) (entry : Entry) : Type 0 where
  pub outputs : names_of entry.outputs ≡ names_of (flat_map output_start m.ports)
  pub bits : names_of entry.registers ≡ register_names m.items
  pub words : names_of entry.words ≡ word_names m.items

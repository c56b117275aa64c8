-- What holds of a module whose names are replaced.
use Rattle.std.specs.Prelude.{◌≡◌, ℕ, List, map, All}
use Rattle.vlog_module.specs.Parts.{Parts}
use Rattle.vlog_module.specs.WellFormed.{IsModule}
use Rattle.vlog_semantics.specs.declared.event.Event.{Event}
use Rattle.vlog_semantics.specs.Entries.{Entry}
use Rattle.vlog_semantics.specs.Run.{module_run}
use Rattle.port_names.specs.Renamed.{renamed, entry_renamed}
use Rattle.port_names.specs.Fresh.{IsFresh, AreNames, OnlyPorts}

-- two entries have the same registers, words, memories and wires
pub record SameState (entry other : Entry) : Type 0 where
  pub registers : other.registers ≡ entry.registers
  pub words : other.words ≡ entry.words
  pub memories : other.memories ≡ entry.memories
  pub wires : other.wires ≡ entry.wires

-- The renamed module is well-formed, and after the start and after each event it holds what the module holds, under the new names. If only
-- ports are renamed, then registers, words, memories and wires keep their names.
pub record RunsRenamed (renaming : List (List ℕ × List ℕ)) (m : Parts) : Type 0 where
  pub whole : AreNames renaming → IsModule (renamed renaming m)
  pub run : (events : List Event) → module_run (renamed renaming m) events ≡ map (entry_renamed renaming) (module_run m events)
  pub state : OnlyPorts renaming m → (events : List Event) → All (λ entry. SameState entry (entry_renamed renaming entry)) (module_run m events)

-- this holds for a module that is well-formed, and a renaming that is fresh for it
abbrev pub RenamingKeepsRuns : List (List ℕ × List ℕ) → Parts → Type 0
RenamingKeepsRuns renaming m = IsModule m → IsFresh renaming m → RunsRenamed renaming m

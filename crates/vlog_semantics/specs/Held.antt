-- The map for which a list of names with values stands.
use Rattle.std.specs.Prelude.{◌≡◌, ℕ, List}
use Rattle.vlog_semantics.specs.declared.named.Named.{Named}
use Rattle.vlog_semantics.specs.Named.{names_of, values_of}
use Rattle.vlog_semantics.specs.Numbered.{numbered}
use Rattle.vlog_semantics.specs.Slots.{Finds}

-- the names and the values are those of the map
pub record Holds {A : Type 0} (named : Named A) (entries : List (List ℕ × A)) : Type 0 where
  pub slots : Finds named.slots (numbered 0 (names_of entries))
  pub values : named.values.items ≡ values_of entries

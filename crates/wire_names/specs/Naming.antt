-- What is kept while wires get names.
use Rattle.std.specs.Prelude.{◌≡◌, ℕ, ◌||◌, List}
use Rattle.name_set.specs.Sets.{has_name}
use Rattle.vlog_module.specs.Parts.{Parts}
use Rattle.vlog_semantics.specs.Named.{values_of}
use Rattle.wire_names.specs.declared.naming.Naming.{Naming}
use Rattle.wire_names.specs.Names.{is_declared, is_wire}

-- These wires of a module have these names, and no others have. The names that are taken are those and all that the module declares.
pub record Names (m : Parts) (earlier : List (List ℕ × List ℕ)) (naming : Naming) : Type 0 where
  pub wires : (name : List ℕ) → has_name naming.wires name ≡ is_wire m name
  pub taken : (name : List ℕ) → has_name naming.taken name ≡ (is_declared m name || has_name (values_of earlier) name)
  pub names : naming.names ≡ earlier

-- a name is among those of others, or one of the names that were there before
abbrev pub IsWith : List (List ℕ) → List (List ℕ) → List (List ℕ) → Type 0
IsWith more old new = (name : List ℕ) → has_name new name ≡ (has_name old name || has_name more name)

-- these names are taken too, and these wires are there too
pub record Declares (names wires : List (List ℕ)) (old new : Naming) : Type 0 where
  pub taken : IsWith names old.taken new.taken
  pub wires_are : IsWith wires old.wires new.wires
  pub named : new.names ≡ old.names

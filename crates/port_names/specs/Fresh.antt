-- Which renamings keep the names of a module distinct.
use Rattle.std.specs.Prelude.{ℕ, List, map, bytes_eq, not, IsTrue, All}
use Rattle.std.specs.List.{IsDistinct}
use Rattle.vlog_module.specs.declared.modules.Port.{Port}
use Rattle.vlog_module.specs.Names.{IsName}
use Rattle.vlog_module.specs.Parts.{Parts}
use Rattle.vlog_module.specs.WellFormed.{scope_of}
use Rattle.vlog_semantics.specs.Named.{names_of, values_of, has_name}

-- the names that a renaming replaces
abbrev pub old_names : List (List ℕ × List ℕ) → List (List ℕ)
old_names renaming = names_of renaming

-- the names that a renaming puts in their place
abbrev pub new_names : List (List ℕ × List ℕ) → List (List ℕ)
new_names renaming = values_of renaming

-- the names that a module declares: those of its ports, registers, memories and wires
abbrev pub declared_names : Parts → List (List ℕ)
declared_names m = names_of (scope_of m.ports m.items).declared

abbrev pub port_names : List Port → List (List ℕ)
port_names ports = map (λ port. port.name) ports

-- none of these names is among the others
abbrev pub NoneIn : List (List ℕ) → List (List ℕ) → Type 0
NoneIn names others = All (λ name. IsTrue (not (has_name others name))) names

-- The new names are distinct, and none of them is declared in the module or is itself an old name.
pub record IsFresh (renaming : List (List ℕ × List ℕ)) (m : Parts) : Type 0 where
  pub apart : IsDistinct bytes_eq (new_names renaming)
  pub undeclared : NoneIn (new_names renaming) (declared_names m)
  pub unlisted : NoneIn (new_names renaming) (old_names renaming)

-- all old and new names are names of the Verilog subset
pub record AreNames (renaming : List (List ℕ × List ℕ)) : Type 0 where
  pub old : All IsName (old_names renaming)
  pub «new» : All IsName (new_names renaming)

-- only ports are renamed: each old name is the name of a port
abbrev pub OnlyPorts : List (List ℕ × List ℕ) → Parts → Type 0
OnlyPorts renaming m = All (λ name. IsTrue (has_name (port_names m.ports) name)) (old_names renaming)

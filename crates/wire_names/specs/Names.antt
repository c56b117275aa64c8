-- The names that a module declares.
use Rattle.std.specs.Prelude.{ℕ, Bool, List, [], ◌∷◌, ◌++◌, flat_map, map}
use Rattle.name_set.specs.Sets.{has_name}
use Rattle.vlog_module.specs.declared.item.Item.{Item}
use Rattle.vlog_module.specs.declared.item.Item.TheVariants.{Register, Word, Memory, Wire}
use Rattle.vlog_module.specs.declared.modules.Port.{Port}
use Rattle.vlog_module.specs.Parts.{Parts}
use Rattle.vlog_semantics.specs.ModuleSlots.{wire_names}

-- the name that an item declares
abbrev pub declared_by : Item → List (List ℕ)
declared_by (Register name start) = name ∷ []
declared_by (Word name start) = name ∷ []
declared_by (Memory name) = name ∷ []
declared_by (Wire name right) = name ∷ []
declared_by _ = []

-- the names of ports
abbrev pub names_of_ports : List Port → List (List ℕ)
names_of_ports ports = map (λ port. port.name) ports

-- the names of the ports, registers, memories and wires of a module
unfoldable pub declared_names : Parts → List (List ℕ)
declared_names m = names_of_ports m.ports ++ flat_map declared_by m.items

abbrev pub is_declared : Parts → List ℕ → Bool
is_declared m name = has_name (declared_names m) name

abbrev pub is_wire : Parts → List ℕ → Bool
is_wire m name = has_name (wire_names m.items) name

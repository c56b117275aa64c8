-- Names for the wires of a module that is written for a fabric, by the symbols of a text: the names that its router gave to nets.
use Rattle.std.specs.Prelude.{ℕ, List, map}
use Rattle.asc_text.specs.declared.file.Symbol.{Symbol}
use Rattle.vlog_module.specs.Parts.{Parts}
use Rattle.fabric_model.specs.Joins.{class_of}
use Rattle.fabric_module.specs.Names.{wire_name}
use Rattle.wire_names.specs.Lists.{free_names}

-- the wire of a symbol's net, which is that of its class of joined nets, and the symbol's name
abbrev pub wanted_name : List (ℕ × ℕ) → Symbol → List ℕ × List ℕ
wanted_name joins symbol = (wire_name (class_of joins symbol.net), symbol.name)

-- The names for the wires, in the order of the symbols: each symbol's name, unless its wire isn't in the module or has a name already, or the
-- name can't be one or is taken. `joins` are the routings that are on.
unfoldable pub symbol_names : Parts → List (ℕ × ℕ) → List Symbol → List (List ℕ × List ℕ)
symbol_names m joins symbols = free_names m (map (wanted_name joins) symbols)

-- The new names that the code finds.
use Rattle.std.specs.Prelude.{◌≡◌, ℕ, Bool, false, List, Option, bytes_eq, is_some, unwrap_or}
use Rattle.std.specs.Map.{lookup}
use Rattle.vlog_module.specs.declared.atoms.Atom.{Atom}
use Rattle.vlog_module.specs.declared.atoms.Atom.TheVariants.{Bit, Whole, Part}
use Rattle.vlog_module.specs.Maps.{value_in}
use Rattle.port_names.specs.declared.renaming.Renaming.{Renaming}

-- the new name that is kept for a name, if there is one
abbrev pub listed_in : Renaming → List ℕ → Option (List ℕ)
listed_in renaming name = lookup (λ key. bytes_eq name key.items) renaming.by_name.entries

-- the new name of a name, or the name itself if it has none
abbrev pub given_by : Renaming → List ℕ → List ℕ
given_by renaming name = unwrap_or (listed_in renaming name) name

-- the new names that are kept are those of these pairs
unfoldable pub Lists : Renaming → List (List ℕ × List ℕ) → Type 0
Lists renaming pairs = (name : List ℕ) → listed_in renaming name ≡ value_in pairs name

-- whether the name of an atom has a new one
abbrev pub has_listed : Renaming → Atom → Bool
has_listed renaming (Bit bit) = false
has_listed renaming (Whole name) = is_some (listed_in renaming name)
has_listed renaming (Part name k) = is_some (listed_in renaming name)

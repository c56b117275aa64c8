-- Names and their slots.
use Rattle.std.specs.Prelude.{◌≡◌, ℕ, List, Option, bytes_eq}
use Rattle.std.specs.Map.{lookup}
use Rattle.vlog_module.specs.Maps.{value_in}
use Rattle.vlog_semantics.specs.declared.slots.Slots.{Slots}

-- the slot of a name
abbrev pub slot_of : Slots → List ℕ → Option ℕ
slot_of slots name = lookup (λ key. bytes_eq name key.items) slots.by_name.entries

-- the slots are those that the list gives its names
unfoldable pub Finds : Slots → List (List ℕ × ℕ) → Type 0
Finds slots entries = (name : List ℕ) → slot_of slots name ≡ value_in entries name

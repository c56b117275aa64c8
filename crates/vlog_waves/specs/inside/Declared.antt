-- The names of the variables of one kind that items declare, and how they are written.
use Rattle.std.specs.Prelude.{ℕ, List, ◌∷◌, map, if◌then◌else◌}
use Rattle.vlog_module.specs.declared.item.Item.{Item}
use Rattle.vlog_semantics.specs.ModuleSlots.{register_names, wire_names, wire_start, word_names}
use Rattle.vlog_semantics.specs.Named.{names_of}
use Rattle.vlog_semantics.specs.Run.{register_start, word_start}
use Rattle.vlog_waves.specs.Variables.{Kind as kind_told, wire_label}
use Rattle.vlog_waves.specs.Variables.Kind.{wire_kind, register_kind, word_kind}
use Rattle.vlog_waves.specs.declared.items.Kind.{Kind}
use Rattle.vlog_waves.specs.declared.items.Kind.TheVariants.{Wire, Register, Word}
use Rattle.vlog_waves.specs.declared.labels.Label.{Label}

abbrev pub kind_of : Kind → kind_told
kind_of Wire = wire_kind
kind_of Register = register_kind
kind_of Word = word_kind

-- the name that an item declares, if it is of this kind
abbrev pub declared_by : Kind → Item → List (List ℕ)
declared_by Wire item = names_of (wire_start item)
declared_by Register item = names_of (register_start item)
declared_by Word item = names_of (word_start item)

-- the names of this kind, in the order of their declarations
abbrev pub names_of_kind : Kind → List Item → List (List ℕ)
names_of_kind Wire items = wire_names items
names_of_kind Register items = register_names items
names_of_kind Word items = word_names items

-- a name as it is written
abbrev pub label_text : Label → List ℕ
label_text label = if label.is_escaped then 92 ∷ label.name.now else label.name.now

-- the name of a variable of this kind, by wires with the names that are given to them
abbrev pub shown : List (List ℕ × List ℕ) → Kind → List ℕ → List ℕ
shown names Wire name = wire_label names name
shown names Register name = name
shown names Word name = name

-- the names of the variables of this kind, as they are written
abbrev pub shown_by : List (List ℕ × List ℕ) → Kind → Item → List (List ℕ)
shown_by names kind item = map (shown names kind) (declared_by kind item)

abbrev pub shown_of_kind : List (List ℕ × List ℕ) → Kind → List Item → List (List ℕ)
shown_of_kind names kind items = map (shown names kind) (names_of_kind kind items)

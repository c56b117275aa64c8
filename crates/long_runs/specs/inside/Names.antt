-- Names in a line.
use Rattle.std.specs.Prelude.{ℕ, Bool, List, [], ◌∷◌, ◌++◌, flat_map, if◌then◌else◌}
use Rattle.vlog_module.specs.declared.item.Item.{Item}
use Rattle.vlog_module.specs.declared.modules.Port.{Port}
use Rattle.vlog_semantics.specs.Named.{names_of}
use Rattle.vlog_semantics.specs.Run.{output_start, register_start, word_start}

-- names, each with a space behind it
abbrev pub spaced : List (List ℕ) → List ℕ
spaced names = flat_map (λ name. name ++ 32 ∷ []) names

-- the name of an output
abbrev pub output_name : Port → List (List ℕ)
output_name port = names_of (output_start port)

-- the name of the register that an item declares: one of 16 bits, or one of one bit
abbrev pub register_name : Bool → Item → List (List ℕ)
register_name words item = if words then names_of (word_start item) else names_of (register_start item)

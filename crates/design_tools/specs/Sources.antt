-- The symbols that are kept of an image.
use Rattle.std.specs.Prelude.{List, Option, Vec, option_map}
use Rattle.std.specs.declared.alloc.Global.{Global}
use Rattle.asc_text.specs.declared.file.Symbol.{Symbol}

-- these symbols, if any are kept
abbrev pub symbols_in : Option (Vec Symbol Global) → Option (List Symbol)
symbols_in symbols = option_map (λ list. list.items) symbols

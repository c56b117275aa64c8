-- What the arguments of a tool say of a pin file.
use Rattle.std.specs.Prelude.{ℕ, List, codes, option_map, Option, None, Some}
use Rattle.clap.specs.Words.{Row, Text, first_of}
use Rattle.design_answers.specs.declared.pins.PinRequest.{PinRequest}

-- the most bytes that a pin file may have
abbrev pub pins_limit : ℕ
pins_limit = 1048576

-- a pin file, and the package that it is for
pub record Named : Type 0 where
  pub file : Text
  pub package_name : Text

-- a pin file and a package are given together, or neither is
abbrev pub named_by : Option Text → Option Text → Option (Option Named)
named_by (Some file) (Some package_name) = Some (Some (record { file = file; package_name = package_name }))
named_by None None = Some None
named_by _ _ = None

-- the pin file and the package that the arguments name
abbrev pub pins_in : List Row → Option (Option Named)
pins_in rows = named_by (first_of (codes "pins") rows) (first_of (codes "package") rows)

-- a pin file and its package
abbrev pub pins_named : PinRequest → Named
pins_named pins = record { file = pins.file.now; package_name = pins.package_name.now }

-- a pin file and its package, if the arguments name them
abbrev pub pins_of_request : Option PinRequest → Option Named
pins_of_request pins = option_map pins_named pins

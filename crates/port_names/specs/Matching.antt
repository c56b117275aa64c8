-- When a fabric and a module whose ports have the names of a pin file hold the same values.
use Rattle.std.specs.Prelude.{List}
use Rattle.vlog_semantics.specs.Entries.{Entry as ModuleEntry}
use Rattle.fabric_model.specs.Fabric.{Fabric}
use Rattle.fabric_model.specs.Steps.{Entry}
use Rattle.fabric_module.specs.Matching.{MatchesAs}
use Rattle.pin_file.specs.declared.pin_name.PinName.{PinName}
use Rattle.port_names.specs.Named.{named_input, named_output}

-- an entry of a fabric and an entry of a module match, if the ports have the names that a pin file gives
abbrev pub MatchesNamed : List PinName → Fabric → Entry → ModuleEntry → Type 0
MatchesNamed named fabric entry other = MatchesAs (named_input named) (named_output named) fabric entry other

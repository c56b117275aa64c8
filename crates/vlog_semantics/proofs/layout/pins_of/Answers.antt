use Rattle.std.proofs.Common.{ap, flat_map, ◌∙◌}
use Rattle.vlog_module.specs.Maps.{value_in}
use Rattle.vlog_semantics.specs.Named.{names_of}
use Rattle.vlog_semantics.specs.Numbered.{numbered}
use Rattle.vlog_semantics.specs.Run.{input_start}
use Rattle.vlog_semantics.proofs.Holding.{found-same}
use Rattle.vlog_semantics.proofs.layout.pins_of.Goals as goal

pub returns : goal.returns
returns c = found-same c.in_ok-inputs.inputs.slots _ c.in_ok-inputs.ensures.slots ∙ ap (λ ports. value_in (numbered 0 (names_of (flat_map input_start ports)))) c.ports.ensures.ports

use Rattle.std.proofs.Common.{◌≡◌, ◌++◌, map, flat_map, take}
use Rattle.fabric_module.specs.Written.{pin_ports}
use Rattle.vlog_emit.specs.Each.{pll_port}
use Rattle.vlog_emit.proofs.sections.ports_of.Given as goal

abbrev pub invariant-loop-source : goal.invariant-loop-source
invariant-loop-source l = l.ports.items ≡ flat_map pin_ports l.pins ++ map pll_port (take l.source-index l.plls)

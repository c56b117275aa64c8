use Rattle.std.proofs.Common.{◌≡◌, take}
use Rattle.port_names.specs.Named.{port_renaming}
use Rattle.port_names.proofs.naming.port_renaming.Given as goal

abbrev pub invariant-loop-pin : goal.invariant-loop-pin
invariant-loop-pin l = l.names.items ≡ port_renaming l.named (take l.pin-index l.pins)

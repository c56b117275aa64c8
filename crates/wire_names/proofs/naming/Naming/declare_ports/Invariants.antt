use Rattle.std.proofs.Common.{[], take}
use Rattle.wire_names.specs.Names.{names_of_ports}
use Rattle.wire_names.specs.Naming.{Declares}
use Rattle.wire_names.proofs.naming.Naming.declare_ports.Given as goal

abbrev pub invariant-loop-port : goal.invariant-loop-port
invariant-loop-port l = Declares (names_of_ports (take l.port-index l.ports)) [] l.initial.self l.self

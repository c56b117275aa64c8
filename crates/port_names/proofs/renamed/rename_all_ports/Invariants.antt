use Rattle.std.proofs.Common.{◌≡◌, ◌++◌, drop, map, take}
use Rattle.port_names.specs.Listed.{given_by}
use Rattle.port_names.specs.Renamed.{renamed_port}
use Rattle.port_names.proofs.renamed.rename_all_ports.Given as goal

abbrev pub invariant-loop-port : goal.invariant-loop-port
invariant-loop-port l = l.ports ≡ map (renamed_port (given_by l.renaming)) (take l.port-index l.initial.ports) ++ drop l.port-index l.initial.ports

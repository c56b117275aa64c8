use Rattle.std.proofs.Common.{◌≡◌, ◌++◌, flat_map, take}
use Rattle.vlog_forms.specs.Printed.{port_line}
use Rattle.vlog_print.proofs.lines.push_ports.Given as goal

abbrev pub invariant-loop-port : goal.invariant-loop-port
invariant-loop-port l = l.out.items ≡ l.initial.out.items ++ flat_map port_line (take l.port-index l.ports)

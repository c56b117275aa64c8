use Rattle.std.proofs.Common.{◌≡◌, ◌++◌, flat_map, take}
use Rattle.vlog_forms.specs.Printed.{next_name}
use Rattle.vlog_print.proofs.lines.push_more_names.Given as goal

abbrev pub invariant-loop-port : goal.invariant-loop-port
invariant-loop-port l = l.out.items ≡ l.initial.out.items ++ flat_map next_name (take l.port-index l.ports)

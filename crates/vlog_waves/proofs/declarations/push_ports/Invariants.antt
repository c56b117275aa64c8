use Rattle.std.proofs.Common.{◌≡◌, ◌++◌, drop, map}
use Rattle.text_lines.specs.Written.{text_of}
use Rattle.vlog_waves.specs.Variables.{of_kind}
use Rattle.vlog_waves.specs.Variables.Kind.{wire_kind}
use Rattle.vlog_waves.specs.Waves.{variable_lines}
use Rattle.vlog_waves.proofs.declarations.push_ports.Given as goal

abbrev pub invariant-loop-number : goal.invariant-loop-number
invariant-loop-number l =
    l.text.items ++ text_of (variable_lines l.number (of_kind wire_kind (map (λ port. port.name) (drop l.number l.ports))))
    ≡ l.initial.text.items ++ text_of (variable_lines 0 (of_kind wire_kind (map (λ port. port.name) l.ports)))

use Rattle.std.proofs.Common.{◌≡◌, ◌-◌, ◌≤◌, ◌++◌, drop, take}
use Rattle.vlog_waves.specs.Variables.{port_bits}
use Rattle.vlog_waves.proofs.values.copy_ports.Given as goal

abbrev pub invariant-loop-place : goal.invariant-loop-place
invariant-loop-place l = record {
  made : take l.place l.bits ++ port_bits (drop l.place l.ports) (drop l.input l.inputs) (drop (l.place - l.input) l.outputs) ≡ port_bits l.ports l.inputs l.outputs;
  few : l.input ≤ l.place;
}

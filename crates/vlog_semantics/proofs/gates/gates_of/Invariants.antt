use Rattle.std.proofs.Common.{◌≡◌, take}
use Rattle.std.specs.Prelude.{map}
use Rattle.vlog_semantics.specs.Cells.{gate_of}
use Rattle.vlog_semantics.proofs.gates.gates_of.Given as goal

abbrev pub invariant-loop-wire : goal.invariant-loop-wire
invariant-loop-wire l = l.gates.items ≡ map (gate_of l.bits l.words) (take l.wire-index l.wires)

-- What is watched: the wires, then flip-flops.
use Rattle.std.proofs.Common.{◌++◌, List, arith}
use Rattle.std.proofs.lemmas.List.{get_or_append_left, length-append}
use Rattle.vlog_semantics.specs.declared.gates.Gate.{Gate}
use Rattle.vlog_engine.specs.Circuits.{watched}
use Rattle.vlog_engine.specs.Marks.{AreFirst, no_gate}
use Rattle.vlog_engine.specs.declared.circuit.Circuit.{Circuit}

pub first-of : (gates more : List Gate) → AreFirst gates (gates ++ more)
first-of gates more = record {
  fit = omega (arith, length-append gates more);
  same = λ place within. get_or_append_left gates more no_gate place within;
}

-- the wires are watched first
pub wires-first : (circuit : Circuit) → AreFirst circuit.gates.items (watched circuit)
wires-first circuit = first-of circuit.gates.items _

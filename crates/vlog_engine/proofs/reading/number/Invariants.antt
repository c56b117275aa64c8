use Rattle.std.proofs.Common.{◌≡◌, [], drop}
use Rattle.std.specs.Prelude.{map}
use Rattle.vlog_semantics.specs.Steps.{operand_value}
use Rattle.vlog_semantics.specs.Values.{number_of}
use Rattle.vlog_engine.specs.Lanes.{lane_bits}
use Rattle.vlog_engine.proofs.reading.number.Given as goal

abbrev pub invariant-loop-place : goal.invariant-loop-place
invariant-loop-place g l = l.number ≡ number_of (map (operand_value (lane_bits g.V.Value.at l.lane l.cells) []) (drop l.place l.operands))

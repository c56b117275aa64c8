use Rattle.std.proofs.Common.{◌≡◌, ◌<◌, ◌++◌, ℕ, [], cond, drop, length, take}
use Rattle.std.specs.Prelude.{map}
use Rattle.vlog_semantics.specs.Steps.{operand_value}
use Rattle.vlog_engine.specs.Lanes.{lane_bits}
use Rattle.vlog_engine.proofs.outputs.write_outputs.Given as goal

abbrev pub invariant-loop-place : goal.invariant-loop-place
invariant-loop-place g l = record {
  lanes : (lane : ℕ) → lane < g.V.Value.LANES → lane_bits g.V.Value.at lane l.outputs
      ≡ cond (g.V.Value.at l.active lane) (take l.place (map (operand_value (lane_bits g.V.Value.at lane l.cells) []) l.operands) ++ drop l.place (lane_bits g.V.Value.at lane l.initial.outputs)) (lane_bits g.V.Value.at lane l.initial.outputs);
  room : length l.outputs ≡ length l.operands;
}

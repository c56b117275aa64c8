use Rattle.std.proofs.Common.{◌≡◌, take}
use Rattle.std.specs.Prelude.{map}
use Rattle.vlog_run.specs.Text.{bit_digit}
use Rattle.vlog_lanes.specs.Lanes.{lane_of}
use Rattle.vlog_sweep.proofs.lines.fill_line.Given as goal

abbrev pub invariant-loop-place : goal.invariant-loop-place
invariant-loop-place l = take l.place l.line ≡ map bit_digit (lane_of l.lane (take l.place l.outputs))

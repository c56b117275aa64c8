use Rattle.std.proofs.Common.{map, take}
use Rattle.vlog_engine.specs.Flips.{flip_gate}
use Rattle.vlog_engine.specs.Watching.{AddsWires}
use Rattle.vlog_engine.proofs.watching.add_flips.Given as goal

abbrev pub invariant-loop-place : goal.invariant-loop-place
invariant-loop-place l = AddsWires l.first (map flip_gate (take l.place l.flips)) l.initial.readers.items l.readers.items

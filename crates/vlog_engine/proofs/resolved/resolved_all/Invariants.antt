use Rattle.std.proofs.Common.{◌≡◌, length, take}
use Rattle.std.specs.Prelude.{map}
use Rattle.vlog_engine.specs.Resolved.{resolved}
use Rattle.vlog_engine.proofs.resolved.resolved_all.Given as goal

abbrev pub invariant-loop-place : goal.invariant-loop-place
invariant-loop-place g l = record {
  size : length l.cells ≡ g.row.N;
  filled : take l.place l.cells ≡ map (resolved l.bits l.words l.roots) (take l.place l.operands);
}

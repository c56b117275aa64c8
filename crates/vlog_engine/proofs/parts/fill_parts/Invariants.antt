use Rattle.std.proofs.Common.{◌≡◌, take}
use Rattle.vlog_semantics.specs.Cells.{parts_below}
use Rattle.vlog_engine.proofs.parts.fill_parts.Given as goal

abbrev pub invariant-loop-place : goal.invariant-loop-place
invariant-loop-place l = take l.place l.parts ≡ parts_below l.words l.place

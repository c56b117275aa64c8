use Rattle.std.proofs.Common.{◌≡◌, length, take}
use Rattle.vlog_semantics.specs.Plans.{operands_of}
use Rattle.vlog_semantics.specs.Slots.{slot_of}
use Rattle.vlog_semantics.proofs.places.operands_of.Given as goal

abbrev pub invariant-loop-place : goal.invariant-loop-place
invariant-loop-place g l = record {
  size : length l.operands ≡ g.row.N;
  filled : take l.place l.operands ≡ operands_of (slot_of l.bits) (slot_of l.words) (take l.place l.atoms);
}

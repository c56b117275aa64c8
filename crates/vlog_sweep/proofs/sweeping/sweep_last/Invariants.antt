use Rattle.std.specs.List.{sum_by}
use Rattle.vlog_sweep.specs.Strands.{left_of}
use Rattle.vlog_sweep.proofs.Going.{Going}
use Rattle.vlog_sweep.proofs.sweeping.sweep_last.Given as goal

abbrev pub invariant-loop-active : goal.invariant-loop-active
invariant-loop-active l = Going l.module l.lists l.lanes l.strands.items

abbrev pub decreases-loop-active : goal.decreases-loop-active
decreases-loop-active l = sum_by left_of l.strands.items

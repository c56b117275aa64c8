use Rattle.std.proofs.Common.{◌≡◌, sum_by, take}
use Rattle.vlog_sweep.specs.Strands.{list_size}
use Rattle.vlog_sweep.proofs.beginning.whole_size.Given as goal

abbrev pub invariant-loop-list : goal.invariant-loop-list
invariant-loop-list l = l.size ≡ sum_by (list_size l.width) (take l.list-index l.lists)

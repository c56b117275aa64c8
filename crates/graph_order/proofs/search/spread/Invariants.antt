use Rattle.std.proofs.Common.{◌+◌, ◌-◌, ◌≤◌, not, length, count_by}
use Rattle.graph_order.specs.Rows.{row_at}
use Rattle.graph_order.specs.Search.{IsSearch}
use Rattle.graph_order.proofs.search.spread.Given as goal

abbrev pub invariant-loop-place : goal.invariant-loop-place
invariant-loop-place l = record {
  so_far : IsSearch (row_at l.rows) l.start l.fn.marks l.marks l.place l.trail.items;
  place : l.place ≤ length l.trail.items;
}

abbrev pub decreases-loop-place : goal.decreases-loop-place
decreases-loop-place l = count_by not l.marks + length l.trail.items - l.place

use Rattle.std.proofs.Common.{◌≡◌, ◌≤◌, ◌-◌, [], length, replicate}
use Rattle.graph_order.specs.Rows.{lists_of}
use Rattle.graph_order.proofs.readers.no_rows.Given as goal

abbrev pub invariant-loop-alloc : goal.invariant-loop-alloc
invariant-loop-alloc l = record { all : lists_of l.rows.items ≡ replicate (length l.rows.items) []; few : length l.rows.items ≤ l.count }

abbrev pub decreases-loop-alloc : goal.decreases-loop-alloc
decreases-loop-alloc l = l.count - length l.rows.items

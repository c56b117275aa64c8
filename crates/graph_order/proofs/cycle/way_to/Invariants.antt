use Rattle.std.proofs.Common.{◌≡◌, ◌<◌, true, length}
use Rattle.graph_order.specs.Wiring.{Wiring, depends}
use Rattle.graph_order.specs.Search.{node_at, IsTrail}
use Rattle.graph_order.proofs.Closed.{LeadsBack}
use Rattle.graph_order.proofs.cycle.way_to.Given as goal

abbrev pub invariant-loop-place : goal.invariant-loop-place
invariant-loop-place l = record {
  within : l.place < length l.trail;
  leads : (wiring : Wiring) → IsTrail wiring.reads l.trail → depends wiring (node_at l.trail l.last) (node_at l.trail 0) ≡ true → LeadsBack wiring l.trail l.place l.way.items;
}

abbrev pub decreases-loop-place : goal.decreases-loop-place
decreases-loop-place l = l.place

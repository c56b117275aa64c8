use Rattle.std.proofs.Common.{◌≡◌, ℕ, ◌<◌, ◌∙◌, false, length, ap, subst}
use Rattle.graph_order.specs.Wiring.{has}
use Rattle.graph_order.specs.Rows.{is_marked, row_at, wiring_of}
use Rattle.graph_order.specs.Search.{node_at}
use Rattle.graph_order.proofs.Closed.{search-open}
use Rattle.graph_order.proofs.cycle.cycle_from.Goals as goal

pub returns-in_default-clause-none : goal.returns-in_default-clause-none
returns-in_default-clause-none c =
    search-open (wiring_of c.args.driven.now c.args.reads.now) c.args.node c.deref_mut.result.now c.spread.new.marks c.in_ok-trail.trail.items c.in_ok-trail.ensures
    (λ node. ap (λ marks. is_marked marks node) c.deref_mut.ensures.value ∙ c.in_ok-marks.ensures.unmarked node)
    (subst (λ trail. (place : ℕ) → place < length trail → has (row_at c.args.reads.now (node_at trail place)) c.args.node ≡ false) c.deref.ensures.value c.in_default.ensures.none)

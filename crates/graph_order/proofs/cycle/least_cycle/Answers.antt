use Rattle.std.proofs.Common.{inl, inr, IfSome, length, subst, arith}
use Rattle.std.proofs.lemmas.Bool.{cases_lt}
use Rattle.graph_order.specs.Wiring.{IsCycle}
use Rattle.graph_order.specs.Rows.{wiring_of}
use Rattle.graph_order.proofs.Closed.{cycle-lies, open-outside}
use Rattle.graph_order.proofs.Whole.{rows-bounded}
use Rattle.graph_order.proofs.cycle.least_cycle.Goals as goal

pub returns-in-Some-clause-lies : goal.returns-in-Some-clause-lies
returns-in-Some-clause-lies c =
    let wiring = wiring_of c.args.driven.now c.args.reads.now in
    cycle-lies wiring (rows-bounded c.args.driven.now c.args.reads.now c.requires.rows) c.in-Some.cycle.items
    (subst (λ found. IfSome found (λ cycle. IsCycle wiring cycle.items)) c.in-Some.is c.in_ok-cycle.ensures.cycle)

pub returns-clause-none : goal.returns-clause-none
returns-clause-none c = λ node.
    elim (cases_lt node (length c.args.driven.now)) [
      | inl less ↦ c.loop-node.invariant node (omega (arith, less, c.loop-node-test.false))
      | inr more ↦ open-outside (wiring_of c.args.driven.now c.args.reads.now) (rows-bounded c.args.driven.now c.args.reads.now c.requires.rows) node more
    ]

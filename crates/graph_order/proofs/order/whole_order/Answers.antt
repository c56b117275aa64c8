use Rattle.graph_order.specs.Rows.{is_marked, wiring_of}
use Rattle.graph_order.proofs.Whole.{stuck-whole, whole-order, cycle-there, rows-bounded}
use Rattle.graph_order.proofs.Open.{order-open}
use Rattle.graph_order.proofs.order.whole_order.Goals as goal

pub returns-then-is_whole-clause-open : goal.returns-then-is_whole-clause-open
returns-then-is_whole-clause-open c = λ driven node.
    let wiring = wiring_of c.args.driven.now c.args.reads.now in
    let written = is_marked c.write_all.new.written in
    let order = c.in_ok-order.order.items in
    let is = whole-order wiring written order c.in_ok-order.ensures.order (c.is_whole.ensures.sound c.if-is_whole.true) in
    order-open wiring (rows-bounded c.args.driven.now c.args.reads.now c.requires.rows) driven order is node

pub returns-else-is_whole-clause-none : goal.returns-else-is_whole-clause-none
returns-else-is_whole-clause-none c = λ order is.
    let wiring = wiring_of c.args.driven.now c.args.reads.now in
    let written = is_marked c.write_all.new.written in
    let all = stuck-whole wiring written c.in_ok-order.order.items order c.in_ok-order.ensures.order is c.in_ok-order.ensures.none in
    absurd (cc (c.is_whole.ensures.whole all, c.if-is_whole.false))

pub returns-else-is_whole-clause-cycle : goal.returns-else-is_whole-clause-cycle
returns-else-is_whole-clause-cycle c =
    cycle-there (wiring_of c.args.driven.now c.args.reads.now) (rows-bounded c.args.driven.now c.args.reads.now c.requires.rows) (returns-else-is_whole-clause-none c)

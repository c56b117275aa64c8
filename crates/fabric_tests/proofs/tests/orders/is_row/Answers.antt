use Rattle.std.proofs.Common.{◌<◌, subst, arith}
use Rattle.graph_order.proofs.Lists.{has-place}
use Rattle.fabric_tests.proofs.tests.orders.is_row.Goals as goal

pub returns : goal.returns
returns c = λ yes class found.
    let there = has-place c.args.row.now class found in
    subst (λ k. k < c.args.count) there.here (c.loop-class.invariant there.place (omega (arith, there.within, c.loop-class-test.false)))

use Rattle.std.proofs.Common.{◌≡◌, true, get_or, sym, subst, arith}
use Rattle.graph_order.specs.Rows.{is_marked}
use Rattle.graph_order.proofs.Lists.{has-at, has-place}
use Rattle.graph_order.proofs.ready.are_written.Goals as goal

pub bounds-driven-node : goal.bounds-driven-node
bounds-driven-node c = c.requires.within (get_or c.args.nodes.now c.loop-node.node-index 0) (has-at c.args.nodes.now c.loop-node.node-index c.loop-node-test.true)

pub returns-then-not-written-node-clause-whole : goal.returns-then-not-written-node-clause-whole
returns-then-not-written-node-clause-whole c = λ all.
    let node = get_or c.args.nodes.now c.loop-node.node-index 0 in
    let written : is_marked c.args.written.now node ≡ true = all node (has-at c.args.nodes.now c.loop-node.node-index c.loop-node-test.true) c.if-driven-node.true in
    absurd (cc (written, c.if-not-written-node.true))

pub returns-clause-sound : goal.returns-clause-sound
returns-clause-sound c = λ yes other found driven.
    let there = has-place c.args.nodes.now other found in
    subst (λ k. is_marked c.args.written.now k ≡ true) there.here
    (c.loop-node.invariant there.place (omega (arith, there.within, c.loop-node-test.false)) (subst (λ k. is_marked c.args.driven.now k ≡ true) (sym there.here) driven))

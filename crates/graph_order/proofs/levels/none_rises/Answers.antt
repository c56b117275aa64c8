use Rattle.std.proofs.Common.{◌≡◌, ℕ, ◌<◌, ◌≤◌, ◌∙◌, true, length, nat_le, get_or, ap, sym, arith}
use borrow.Author.Count.{below_more}
use Rattle.std.proofs.lemmas.Bool.{leb-true}
use Rattle.graph_order.specs.Wiring.{has}
use Rattle.graph_order.specs.Rows.{row_at}
use Rattle.graph_order.proofs.Each.{row-all, all-passes}
use Rattle.graph_order.proofs.Lists.{row-items}
use Rattle.graph_order.proofs.Whole.{row-within}
use Rattle.graph_order.proofs.levels.none_rises.Goals as goal

pub is_at_most-requires : goal.is_at_most-requires
is_at_most-requires c =
    row-all (λ node. node < length c.args.levels.now) c.args.reads.now c.loop-node.node c.index-reads-node.result c.deref.result.now
    c.loop-node-test.true c.index-reads-node.is c.deref.ensures.value
    (λ node found. let less = c.requires.within c.loop-node.node node found in omega (arith, less, c.requires.rows))

pub loop-node-preserved : goal.loop-node-preserved
loop-node-preserved c =
    let rows = c.args.reads.now in
    let row = c.index-reads-node.result in
    let at = c.loop-node.node in
    let levels = c.args.levels.now in
    let here = row-items rows at row row c.loop-node-test.true c.index-reads-node.is ∙ sym c.deref.ensures.value in
    below_more (λ node. (other : ℕ) → has (row_at rows node) other ≡ true → get_or levels other 0 ≤ get_or levels node 0) at c.loop-node.invariant
    (λ other found.
    let passes = all-passes (λ k. nat_le (get_or levels k 0) (get_or levels at 0)) c.deref.result.now other (sym c.is_at_most.ensures ∙ c.if-not-is_at_most.false)
    (ap (λ list. has list other) (sym here) ∙ found) in
    leb-true (get_or levels other 0) (get_or levels at 0) passes)

pub returns : goal.returns
returns c = λ yes node other found.
    let within = row-within c.args.reads.now node other found in
    c.loop-node.invariant node (omega (arith, within, c.loop-node-test.false)) other found

use Rattle.std.proofs.Common.{◌≡◌, ◌∙◌, inl, inr, true, length, ap, sym, subst, arith}
use Rattle.std.proofs.lemmas.Bool.{cases_lt}
use Rattle.graph_order.specs.Wiring.{has}
use Rattle.graph_order.specs.Rows.{row_at}
use Rattle.graph_order.proofs.Lists.{row-items}
use Rattle.graph_order.proofs.Rows.{no-rows, no-rows-length}
use Rattle.graph_order.proofs.Whole.{row-within}
use Rattle.graph_order.proofs.readers.readers_of.Goals as goal

pub loop-node-init : goal.loop-node-init
loop-node-init c =
    let rows = c.in_ok-readers.readers.items in
    let n = length c.args.reads.now in
    record {
      rows = no-rows-length rows n c.in_ok-readers.ensures;
      within = λ other reader found. absurd (no-rows rows n c.in_ok-readers.ensures other reader found);
      all = λ node other less. absurd (omega arith);
    }

pub add_reader-requires : goal.add_reader-requires
add_reader-requires c =
    let row = c.index-reads-node.result in
    let node = c.loop-node.node in
    let here = row-items c.args.reads.now node row row c.loop-node-test.true c.index-reads-node.is ∙ sym c.deref.ensures.value in
    λ other found.
    let less = c.requires.within node other (ap (λ list. has list other) here ∙ found) in
    omega (arith, less, c.loop-node.invariant.rows)

pub loop-node-preserved : goal.loop-node-preserved
loop-node-preserved c =
    let row = c.index-reads-node.result in
    let at = c.loop-node.node in
    let i = c.loop-node.invariant in
    let does = c.in_ok-add_reader.ensures in
    let here = row-items c.args.reads.now at row row c.loop-node-test.true c.index-reads-node.is ∙ sym c.deref.ensures.value in
    record {
      rows = does.length ∙ i.rows;
      within = does.within (length c.args.reads.now) c.loop-node-test.true i.within;
      all = λ node other less found. elim (cases_lt node at) [
        | inl before ↦ does.kept other node (i.all node other before found)
        | inr more ↦
            let same : node ≡ at = omega arith in
            let now : has c.deref.result.now other ≡ true = ap (λ list. has list other) (sym here) ∙ subst (λ k. has (row_at c.args.reads.now k) other ≡ true) same found in
            subst (λ k. has (row_at c.add_reader.new.rows.items other) k ≡ true) (sym same) (does.added other now)
      ];
    }

pub returns-clause-all : goal.returns-clause-all
returns-clause-all c = λ node other found.
    let within = row-within c.args.reads.now node other found in
    c.loop-node.invariant.all node other (omega (arith, within, c.loop-node-test.false)) found

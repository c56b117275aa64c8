use Rattle.std.proofs.lemmas.Bool.{cases_lt}
use Rattle.std.proofs.Common.{inl, inr, ◌≡◌, ◌<◌, length, get_or, subst, ◌∙◌, true, arith}
use Rattle.graph_order.specs.Wiring.{has}
use Rattle.graph_order.specs.Rows.{row_at}
use Rattle.graph_order.proofs.Lists.{has-at, has-place}
use Rattle.graph_order.proofs.Rows.{rows-kept, rows-added, rows-within, rows-length}
use Rattle.graph_order.proofs.readers.add_reader.Goals as goal

pub add-requires : goal.add-requires
add-requires c =
    let read = c.requires (get_or c.args.read.now c.loop-other.other-index 0) (has-at c.args.read.now c.loop-other.other-index c.loop-other-test.true) in
    omega (arith, read, c.loop-other.invariant.rows)

pub loop-other-preserved : goal.loop-other-preserved
loop-other-preserved c =
    let rows = c.loop-other.rows.items in
    let new = c.add.new.rows.items in
    let list = c.args.read.now in
    let at = get_or list c.loop-other.other-index 0 in
    let i = c.loop-other.invariant in
    let node = c.args.node in
    let read = c.requires at (has-at list c.loop-other.other-index c.loop-other-test.true) in
    let within : at < length rows = omega (arith, read, i.rows) in
    let is = c.in_ok-add.ensures in
    record {
      rows = rows-length rows new at node is ∙ i.rows;
      kept = λ other reader found. rows-kept rows new at node within is other reader (i.kept other reader found);
      added = λ place less. elim (cases_lt place c.loop-other.other-index) [
        | inl before ↦ rows-kept rows new at node within is (get_or list place 0) node (i.added place before)
        | inr more ↦
            let same : c.loop-other.other-index ≡ place = omega arith in
            subst (λ k. has (row_at new (get_or list k 0)) node ≡ true) same (rows-added rows new at node within is)
      ];
      within = λ bound less all. rows-within rows new at node within is bound less (i.within bound less all);
    }

pub returns-clause-added : goal.returns-clause-added
returns-clause-added c = λ other found.
    let there = has-place c.args.read.now other found in
    subst (λ k. has (row_at c.loop-other.rows.items k) c.args.node ≡ true) there.here
    (c.loop-other.invariant.added there.place (omega (arith, there.within, c.loop-other-test.false)))

use Rattle.std.proofs.Common.{◌≡◌, ◌<◌, ◌++◌, ◌∷◌, [], true, length, get_or, set, ap, sym, subst, ◌∙◌, arith}
use borrow.Author.Count.{below_more}
use Rattle.graph_order.specs.Rows.{is_marked}
use Rattle.graph_order.specs.Search.{Adds}
use Rattle.graph_order.specs.declared.search.Found.{Found}
use Rattle.graph_order.proofs.Lists.{has-at, has-place}
use Rattle.graph_order.proofs.Trails.{adds-one, still-marked}
use Rattle.graph_order.proofs.Written.{marked}
use Rattle.graph_order.proofs.search.add_unmarked.Goals as goal
use Rattle.graph_order.proofs.search.add_unmarked.Goals.{then-not-marks-node+in_ok-push, else-not-marks-node}

pub bounds-marks-node : goal.bounds-marks-node
bounds-marks-node c =
    let within = c.requires (get_or c.args.row.now c.loop-node.node-index 0) (has-at c.args.row.now c.loop-node.node-index c.loop-node-test.true) in
    omega (arith, within)

pub bounds-marks-node-then-not-marks-node : goal.bounds-marks-node-then-not-marks-node
bounds-marks-node-then-not-marks-node c =
    let within = c.requires (get_or c.args.row.now c.loop-node.node-index 0) (has-at c.args.row.now c.loop-node.node-index c.loop-node-test.true) in
    omega (arith, within)

pub loop-node-preserved : goal.loop-node-preserved
loop-node-preserved c =
    let row = c.args.row.now in
    let from = c.args.from in
    let old = c.args.marks.now in
    let trail = c.args.trail.now.items in
    let marks = c.loop-node.marks in
    let grown = c.loop-node.trail.items in
    let i = c.loop-node.invariant in
    let one : Found = record { node = get_or row c.loop-node.node-index 0; from = from } in
    let in_row = has-at row c.loop-node.node-index c.loop-node-test.true in
    let needs = c.requires one.node in_row in
    let within : one.node < length marks = omega (arith, needs) in
    elim c.if-not-marks-node.branch [
      | then-not-marks-node+in_ok-push w ↦
          let adds = adds-one row old marks trail grown one i.adds within w.if-not-marks-node.true in_row in
          let more : c.if-not-marks-node.trail.items ≡ grown ++ one ∷ [] = ap (λ v. v.items) w.trail-is ∙ w.in_ok-push.ensures.items in
          record {
            adds = subst (λ m. Adds row from old m trail c.if-not-marks-node.trail.items) (sym w.marks-is)
                (subst (λ items. Adds row from old (set marks one.node true) trail items) (sym more) adds);
            all = below_more (λ place. is_marked c.if-not-marks-node.marks (get_or row place 0) ≡ true) c.loop-node.node-index
                (λ place less. ap (λ m. is_marked m (get_or row place 0)) w.marks-is ∙ still-marked marks one.node (get_or row place 0) within (i.all place less))
                (ap (λ m. is_marked m one.node) w.marks-is ∙ (marked marks one.node within).here);
          }
      | else-not-marks-node w ↦
          let same : c.if-not-marks-node.trail.items ≡ grown = ap (λ v. v.items) w.trail-is in
          record {
            adds = subst (λ m. Adds row from old m trail c.if-not-marks-node.trail.items) (sym w.marks-is)
                (subst (λ items. Adds row from old marks trail items) (sym same) i.adds);
            all = below_more (λ place. is_marked c.if-not-marks-node.marks (get_or row place 0) ≡ true) c.loop-node.node-index
                (λ place less. ap (λ m. is_marked m (get_or row place 0)) w.marks-is ∙ i.all place less)
                (ap (λ m. is_marked m one.node) w.marks-is ∙ w.if-not-marks-node.false);
          }
    ]

pub returns-clause-all : goal.returns-clause-all
returns-clause-all c = λ node found.
    let there = has-place c.args.row.now node found in
    subst (λ k. is_marked c.loop-node.marks k ≡ true) there.here (c.loop-node.invariant.all there.place (omega (arith, there.within, c.loop-node-test.false)))

use Rattle.std.proofs.Common.{◌≡◌, [], ◌∷◌, ◌++◌, true, inl, inr, subst, sym, ap, ◌∙◌, arith}
use Rattle.std.proofs.lemmas.Bool.{cases_lt}
use Rattle.graph_order.specs.Wiring.{has}
use Rattle.graph_order.proofs.OneOrder.{has-none}
use Rattle.graph_order.proofs.Lists.{has-kept, has-last, has-split}
use Rattle.graph_order.proofs.order.all_below.Goals as goal

pub loop-node-init : goal.loop-node-init
loop-node-init c = record {
  within = λ node found. absurd (has-none node (ap (λ list. has list node) (sym c.new-all.ensures.items) ∙ found));
  all = λ node within. absurd (omega arith);
}

pub loop-node-preserved : goal.loop-node-preserved
loop-node-preserved c =
    let list = c.loop-node.all.items in
    let last = c.loop-node.node in
    let now = c.in_ok-push.ensures.items in
    record {
      within = λ node found. elim (has-split list last node (ap (λ l. has l node) (sym now) ∙ found)) [
        | inl before ↦ let less = c.loop-node.invariant.within node before in omega (arith, less)
        | inr here ↦ omega (arith, here)
      ];
      all = λ node within. ap (λ l. has l node) now ∙ elim (cases_lt node last) [
        | inl less ↦ has-kept list last node (c.loop-node.invariant.all node less)
        | inr more ↦
            let same : last ≡ node = omega arith in
            subst (λ k. has (list ++ last ∷ []) k ≡ true) same (has-last list last)
      ];
    }

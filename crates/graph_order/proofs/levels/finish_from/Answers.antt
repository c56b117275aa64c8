use Rattle.std.proofs.Common.{◌≡◌, ◌+◌, ◌<◌, ◌++◌, ◌∷◌, [], Bool, Some, true, length, get_or, set, sym, ap, ◌∙◌, subst, arith}
use Rattle.std.specs.List.{All}
use Rattle.std.proofs.lemmas.List.{length-append, length-set}
use Rattle.std.proofs.lemmas.List.Elements.{All-pop, All-push, All-same}
use Rattle.graph_order.specs.declared.levels.Step.{Step}
use Rattle.graph_order.proofs.Each.{row-all}
use Rattle.graph_order.proofs.Trails.{fewer-unmarked}
use Rattle.graph_order.proofs.levels.finish_from.Goals as goal

pub next_unmarked-requires : goal.next_unmarked-requires
next_unmarked-requires c =
    let marks = c.loop-step.marks in
    let step = c.in-Some.step in
    let popped = All-pop (λ (step : Step). step.node < length marks) c.loop-step.steps.items c.pop.new.self.items (Some step) c.in-Some.ensures.items c.loop-step.invariant.steps in
    row-all (λ node. node < length marks) c.args.reads.now step.node c.index-reads-step.result c.as_slice-row.result.now
    (omega (arith, popped.1, c.requires.rows, length-set {A = Bool})) c.index-reads-step.is c.as_slice-row.ensures.value
    (λ node found. let less = c.requires.within step.node node found in omega (arith, less, length-set {A = Bool}))

pub loop-step-smaller-in-Continue-branch-3 : goal.loop-step-smaller-in-Continue-branch-3
loop-step-smaller-in-Continue-branch-3 c =
    let arm = c.in-Some-next_unmarked in
    let node = get_or c.as_slice-row.result.now arm.place 0 in
    let fewer = fewer-unmarked c.loop-step.marks node arm.ensures.below arm.ensures.unmarked in
    let popped = ap length c.in-Some.ensures.items ∙ length-append c.pop.new.self.items (c.in-Some.step ∷ []) in
    let one = ap length c.in_ok-push-in-Some-next_unmarked.ensures.items in
    let two = ap length c.in_ok-push-in-Some-next_unmarked-2.ensures.items in
    omega (arith, fewer, popped, one, two, length-append {A = Step})

pub loop-step-preserved-in-Continue-branch-3 : goal.loop-step-preserved-in-Continue-branch-3
loop-step-preserved-in-Continue-branch-3 c =
    let marks = c.loop-step.marks in
    let place = c.in-Some-next_unmarked.place in
    let step = c.in-Some.step in
    let node = get_or c.as_slice-row.result.now place 0 in
    let P : Step → Type 0 = λ step. step.node < length marks in
    let popped = All-pop P c.loop-step.steps.items c.pop.new.self.items (Some step) c.in-Some.ensures.items c.loop-step.invariant.steps in
    let again : Step = record { node = step.node; next = place + 1 } in
    let more : Step = record { node = node; next = 0 } in
    let one = c.push-in-Some-next_unmarked.new.self.items in
    let two = c.push-in-Some-next_unmarked-2.new.self.items in
    let first = All-same P one (c.pop.new.self.items ++ again ∷ []) c.in_ok-push-in-Some-next_unmarked.ensures.items (All-push P c.pop.new.self.items again popped.0 popped.1) in
    let second = All-same P two (one ++ more ∷ []) c.in_ok-push-in-Some-next_unmarked-2.ensures.items (All-push P one more first c.in-Some-next_unmarked.ensures.below) in
    let long : length (set marks node true) ≡ length marks = length-set marks node true in
    record {
      steps = subst (λ n. All (λ (step : Step). step.node < n) two) (sym long) second;
      order = subst (λ n. All (λ node. node < n) c.loop-step.order.items) (sym long) c.loop-step.invariant.order;
    }

pub loop-step-preserved : goal.loop-step-preserved
loop-step-preserved c =
    let P : Step → Type 0 = λ step. step.node < length c.loop-step.marks in
    let popped = All-pop P c.loop-step.steps.items c.pop.new.self.items (Some c.in-Some.step) c.in-Some.ensures.items c.loop-step.invariant.steps in
    record {
      steps = popped.0;
      order = All-same (λ node. node < length c.loop-step.marks) c.push-in-None.new.self.items (c.loop-step.order.items ++ c.in-Some.step.node ∷ []) c.in_ok-push-in-None.ensures.items
          (All-push (λ node. node < length c.loop-step.marks) c.loop-step.order.items c.in-Some.step.node c.loop-step.invariant.order popped.1);
    }

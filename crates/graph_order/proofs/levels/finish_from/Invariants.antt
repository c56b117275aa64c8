use Rattle.std.proofs.Common.{◌*◌, ◌+◌, ◌<◌, not, length, count_by}
use Rattle.std.specs.List.{All}
use Rattle.graph_order.specs.declared.levels.Step.{Step}
use Rattle.graph_order.proofs.levels.finish_from.Given as goal

abbrev pub invariant-loop-step : goal.invariant-loop-step
invariant-loop-step l = record {
  steps : All (λ (step : Step). step.node < length l.marks) l.steps.items;
  order : All (λ node. node < length l.marks) l.order.items;
}

abbrev pub decreases-loop-step : goal.decreases-loop-step
decreases-loop-step l = 2 * count_by not l.marks + length l.steps.items

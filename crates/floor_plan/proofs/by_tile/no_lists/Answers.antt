use Rattle.std.proofs.Common.{◌≡◌, ℕ, List, [], length, replicate, ap, ◌∙◌, arith}
use Rattle.plan_marks.specs.declared.plan.Mark.{Mark}
use Rattle.floor_plan.proofs.by_tile.no_lists.Goals as goal

pub returns : goal.returns
returns c =
    let full : length c.loop-alloc.lists.items ≡ 4096 = omega (arith, c.loop-alloc.invariant.few) in
    c.loop-alloc.invariant.all ∙ ap (λ (n : ℕ). replicate {A = List Mark} n []) full

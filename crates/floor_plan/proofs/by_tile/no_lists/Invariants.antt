use Rattle.std.proofs.Common.{◌≡◌, ◌≤◌, ◌-◌, [], length, replicate}
use Rattle.floor_plan.specs.ByTile.{lists_of}
use Rattle.floor_plan.proofs.by_tile.no_lists.Given as goal

abbrev pub invariant-loop-alloc : goal.invariant-loop-alloc
invariant-loop-alloc l =
    record { all : lists_of l.lists.items ≡ replicate (length l.lists.items) []; few : length l.lists.items ≤ 4096 }

abbrev pub decreases-loop-alloc : goal.decreases-loop-alloc
decreases-loop-alloc l = 4096 - length l.lists.items

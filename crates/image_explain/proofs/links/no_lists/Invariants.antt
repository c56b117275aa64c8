use Rattle.std.proofs.Common.{◌≡◌, ◌≤◌, ◌-◌, [], length, replicate}
use Rattle.image_explain.specs.Inside.{lists_of}
use Rattle.image_explain.proofs.links.no_lists.Given as goal

abbrev pub invariant-loop-alloc : goal.invariant-loop-alloc
invariant-loop-alloc l = record { all : lists_of l.lists.items ≡ replicate (length l.lists.items) []; few : length l.lists.items ≤ 4096 }

abbrev pub decreases-loop-alloc : goal.decreases-loop-alloc
decreases-loop-alloc l = 4096 - length l.lists.items

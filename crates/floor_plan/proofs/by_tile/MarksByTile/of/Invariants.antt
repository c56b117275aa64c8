use Rattle.std.proofs.Common.{take}
use Rattle.floor_plan.specs.ByTile.{AreByTile, lists_of}
use Rattle.floor_plan.proofs.by_tile.MarksByTile.of.Given as goal

abbrev pub invariant-loop-mark : goal.invariant-loop-mark
invariant-loop-mark l =
    AreByTile (take l.mark-index l.marks) (lists_of l.lists.items)

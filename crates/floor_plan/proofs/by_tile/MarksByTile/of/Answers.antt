use Rattle.std.proofs.Common.{arith}
use Rattle.std.proofs.lemmas.List.{length-map}
use Rattle.floor_plan.specs.ByTile.{lists_of}
use Rattle.floor_plan.proofs.ByTiles.{by_tile-next, by_tile-none, mark-within}
use Rattle.floor_plan.proofs.by_tile.MarksByTile.of.Goals as goal

pub loop-mark-init : goal.loop-mark-init
loop-mark-init c = by_tile-none _ c.in_ok-lists.ensures

pub add-requires : goal.add-requires
add-requires c =
    let within = mark-within c.args.marks.now c.loop-mark.mark-index c.index_of.result _ (lists_of c.loop-mark.lists.items) c.requires c.loop-mark-test.true c.index_of.ensures c.loop-mark.invariant.all in
    omega (arith, within, length-map c.loop-mark.lists.items (λ marks. marks.items))

pub loop-mark-preserved : goal.loop-mark-preserved
loop-mark-preserved c =
    by_tile-next c.args.marks.now c.loop-mark.mark-index c.index_of.result _ (lists_of c.loop-mark.lists.items) (lists_of c.add.new.lists.items) c.requires c.loop-mark-test.true c.index_of.ensures
    c.loop-mark.invariant c.in_ok-add.ensures

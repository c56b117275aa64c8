use Rattle.std.proofs.Common.{map}
use Rattle.plane_map.specs.Layout.{kind_of}
use Rattle.plan_marks.specs.Plans.{tile_in}
use Rattle.plan_marks.proofs.Gathered.{gathered-more, gathered-none}
use Rattle.floor_plan.specs.ByTile.{lists_of, tile_by}
use Rattle.floor_plan.proofs.tiles.push_row.Goals as goal

pub loop-x-init : goal.loop-x-init
loop-x-init c = gathered-none (map tile_in c.args.tiles.now.items) _

pub loop-x-preserved : goal.loop-x-preserved
loop-x-preserved c =
    let device = c.args.device in
    let y = c.args.y in
    gathered-more (map tile_in c.args.tiles.now.items) (map tile_in c.loop-x.tiles.items) (map tile_in c.push_tile.new.tiles.items) c.loop-x.x
    (λ x. tile_by (lists_of c.args.marks.now.lists.items) c.args.counts.now x y (kind_of device x y)) c.loop-x.invariant c.in_ok-push_tile.ensures

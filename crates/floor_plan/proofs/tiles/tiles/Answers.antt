use Rattle.std.proofs.Common.{[], map, ap, ◌∙◌}
use Rattle.index_search.specs.Places.{gathered_below}
use Rattle.plane_map.specs.Layout.{grid_width, kind_of}
use Rattle.plan_marks.specs.Plans.{tile_in}
use Rattle.plan_marks.proofs.Gathered.{gathered-more, gathered-none}
use Rattle.floor_plan.specs.ByTile.{lists_of, tile_by}
use Rattle.floor_plan.proofs.tiles.tiles.Goals as goal

pub loop-y-init : goal.loop-y-init
loop-y-init c = ap (map tile_in) c.new-tiles.ensures.items ∙ gathered-none [] _

pub loop-y-preserved : goal.loop-y-preserved
loop-y-preserved c =
    let device = c.args.device in
    gathered-more [] (map tile_in c.loop-y.tiles.items) (map tile_in c.push_row.new.tiles.items) c.loop-y.y
    (λ y. gathered_below (grid_width device) (λ x. tile_by (lists_of c.args.marks.now.lists.items) c.args.counts.now x y (kind_of device x y))) c.loop-y.invariant c.in_ok-push_row.ensures

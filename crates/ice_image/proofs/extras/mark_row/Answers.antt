use Rattle.std.proofs.Common.{ap, arith}
use Rattle.plane_map.specs.Layout.{grid_width}
use Rattle.ice_image.proofs.Marked.{marked_below-more, marked_below-all}
use Rattle.ice_image.proofs.extras.mark_row.Goals as goal

pub loop-x-preserved : goal.loop-x-preserved
loop-x-preserved g c =
    let at = c.tile_row_at-at in
    (marked_below-more c.args.layout.now at.result.y at.result.row c.loop-x.x c.args.owned.now c.loop-x.owned c.mark_tile.new.owned at.ensures.in_tile c.loop-x.invariant.0 c.mark_tile.ensures.written, c.mark_tile.ensures.whole)

pub returns-clause-marked : goal.returns-clause-marked
returns-clause-marked g c =
    let at = c.tile_row_at-at in
    let all = ap grid_width c.device.ensures.device in
    marked_below-all c.args.layout.now c.args.bank c.args.py at.result.y at.result.row c.loop-x.x c.args.owned.now c.loop-x.owned (omega (arith, all, c.columns-x-end.ensures)) at.ensures.only c.loop-x.invariant.0

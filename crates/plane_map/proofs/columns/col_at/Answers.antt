use Rattle.std.proofs.Common.{sym, ◌∙◌}
use Rattle.plane_map.proofs.Owners.{columns-at_side, columns-at_end}
use Rattle.plane_map.proofs.columns.col_at.Goals as goal

pub returns-then-on_side : goal.returns-then-on_side
returns-then-on_side c =
    let side = rw c.device-device.ensures.device at c.on_side.ensures in
    columns-at_side c.args.layout.now c.args.x c.args.y c.args.column c.args.kind c.requires (sym side ∙ c.if-on_side.true) _ c.side_col_at.ensures

pub returns-then-on_end : goal.returns-then-on_end
returns-then-on_end c =
    let side = rw c.device-device.ensures.device at c.on_side.ensures in
    let end = rw c.device-device.ensures.device at c.on_end.ensures in
    columns-at_end c.args.layout.now c.args.x c.args.y c.args.column c.args.kind c.requires (sym side ∙ c.if-on_side.false) (sym end ∙ c.if-on_end.true) _ c.pad_col_at.ensures

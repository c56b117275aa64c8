use Rattle.std.proofs.Common.{ap}
use Rattle.plan_svg.specs.declared.sheet.Offset.{Offset}
use Rattle.plan_svg.specs.Tiles.{pin_mark}
use Rattle.plan_svg.proofs.tiles.push_pin.Goals as goal

pub returns : goal.returns
unfolding pin_mark
returns c =
    rw (c.pin_class.ensures, c.pin_class-2.ensures, c.from.ensures, c.from-2.ensures, ap (λ (o : Offset). o.x) c.pin_offset-offset.ensures, ap (λ (o : Offset). o.y) c.pin_offset-offset.ensures, c.turn.ensures)
    at c.push.ensures

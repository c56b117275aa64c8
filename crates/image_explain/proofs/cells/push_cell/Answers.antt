use Rattle.std.proofs.Common.{◌++◌, sym, ap, ◌∙◌}
use Rattle.ice_image.specs.Either.{configuration_of}
use Rattle.fabric_model.specs.Cells.{is_used}
use Rattle.fabric_model.specs.On.{bits_at}
use Rattle.image_explain.proofs.Ons.{cell-set, none-where}
use Rattle.image_explain.proofs.cells.push_cell.Goals as goal

pub returns-in_ok-push : goal.returns-in_ok-push
returns-in_ok-push c =
    let bits = bits_at (configuration_of c.args.image.now) c.args.at.x c.args.at.y c.args.bits.now in
    c.in_ok-push.ensures.items ∙ ap (λ cell. c.args.items.now.items ++ cell)
    (cell-set (is_used bits) c.args.i _ _ _ _ (sym c.is_one_set.ensures ∙ c.if-is_one_set.true) c.lut.ensures c.flags.ensures)

pub returns-else-is_one_set : goal.returns-else-is_one_set
returns-else-is_one_set c =
    let bits = bits_at (configuration_of c.args.image.now) c.args.at.x c.args.at.y c.args.bits.now in
    none-where (is_used bits) _ c.args.items.now.items (sym c.is_one_set.ensures ∙ c.if-is_one_set.false)

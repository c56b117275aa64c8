use Rattle.ice_image.specs.Either.{configuration_of}
use Rattle.fabric_model.proofs.Setting.{values-tell}
use Rattle.fabric_model.proofs.on.have_values.Goals as goal

pub returns : goal.returns
returns c =
    values-tell (configuration_of c.args.image.now) c.args.x c.args.y c.args.bits.now c.args.values c.tile_equals.result c.tile_equals.ensures

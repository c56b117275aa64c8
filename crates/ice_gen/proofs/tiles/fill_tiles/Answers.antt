use Rattle.std.proofs.Common.{arith}
use Rattle.ice_image.specs.Either.{configuration_of, device_of}
use Rattle.ice_gen.proofs.Filled.{skip-tiles-end}
use Rattle.ice_gen.proofs.tiles.fill_tiles.Goals as goal

pub returns-clause-filled : goal.returns-clause-filled
returns-clause-filled c =
    skip-tiles-end (device_of c.args.image.now) _ (configuration_of c.loop-y.image) c.loop-y.y (grind arith) c.loop-y.invariant.3

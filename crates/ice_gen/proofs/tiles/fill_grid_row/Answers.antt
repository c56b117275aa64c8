use Rattle.std.proofs.Common.{◌*◌, ap, ◌∙◌, arith}
use Rattle.ice_image.specs.Either.{configuration_of, device_of}
use Rattle.ice_gen.proofs.Before.{logic-edge}
use Rattle.ice_gen.proofs.Filled.{skip-edge}
use Rattle.ice_gen.proofs.tiles.fill_grid_row.Goals as goal

pub returns-clause-filled : goal.returns-clause-filled
returns-clause-filled c =
    skip-edge (device_of c.args.image.now) _ (configuration_of c.loop-x.image) c.loop-x.x c.args.y (grind arith) c.loop-x.invariant.3

pub returns-clause-count : goal.returns-clause-count
returns-clause-count c =
    c.loop-x.invariant.2 ∙ ap (λ tiles. 16 * tiles) (logic-edge (device_of c.args.image.now) c.loop-x.x c.args.y (grind arith) c.requires.row)

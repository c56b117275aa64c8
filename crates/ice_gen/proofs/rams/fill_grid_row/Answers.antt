use Rattle.std.proofs.Common.{◌+◌, ◌*◌, ap, ◌∙◌, arith}
use Rattle.ice_image.specs.Either.{configuration_of, device_of}
use Rattle.ice_gen.specs.Numbers.{cells}
use Rattle.ice_gen.proofs.Before.{ram-edge}
use Rattle.ice_gen.proofs.Filled.{skip-ram-edge}
use Rattle.ice_gen.proofs.rams.fill_grid_row.Goals as goal

pub returns-clause-filled : goal.returns-clause-filled
returns-clause-filled c =
    skip-ram-edge (device_of c.args.image.now) _ (configuration_of c.loop-x.image) c.loop-x.x c.args.y (grind arith) c.loop-x.invariant.3

pub returns-clause-count : goal.returns-clause-count
returns-clause-count c =
    let device = device_of c.args.image.now in
    c.loop-x.invariant.2 ∙ ap (λ rams. 2 * cells device + 256 * rams) (ram-edge device c.loop-x.x c.args.y (grind arith) c.requires.row)

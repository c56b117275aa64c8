use Rattle.std.proofs.Common.{refl}
use Rattle.ice_image.proofs.RunBits.{run-gained}
use Rattle.ice_image.proofs.runs.set_run_ones.Goals as goal

pub returns-clause-written : goal.returns-clause-written
returns-clause-written g c =
    let planes = g.P.Bits in
    let set = c.gain_row_bits in
    run-gained planes.WIDTH planes.HEIGHT c.args.planes.now set.ensures.before c.args.run c.args.count c.requires _ c.args.ones c.turned.result set.new.self refl c.turned.ensures.bits set.ensures.planes

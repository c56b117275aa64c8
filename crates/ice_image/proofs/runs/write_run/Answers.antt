use Rattle.ice_image.proofs.RunBits.{run-written}
use Rattle.ice_image.proofs.runs.write_run.Goals as goal

pub returns-clause-written : goal.returns-clause-written
returns-clause-written g c =
    let planes = g.P.Bits in
    let set = c.set_row_bits in
    run-written planes.WIDTH planes.HEIGHT c.args.planes.now set.ensures.before c.args.run c.args.count c.requires c.args.word c.turned.result set.new.self c.turned.ensures.bits set.ensures.planes

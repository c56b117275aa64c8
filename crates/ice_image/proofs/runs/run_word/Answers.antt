use Rattle.ice_image.proofs.RunBits.{run_word-is}
use Rattle.ice_image.proofs.runs.run_word.Goals as goal

pub returns : goal.returns
returns g c =
    let planes = g.P.Bits in
    let read = c.row_bits-bits in
    run_word-is planes.WIDTH planes.HEIGHT c.args.planes.now read.ensures.whole c.args.run c.args.count c.requires read.result c.turned.result read.ensures.bits c.turned.ensures.bits c.turned.ensures.small

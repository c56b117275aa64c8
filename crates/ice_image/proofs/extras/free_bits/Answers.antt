use Rattle.std.proofs.Common.{◌<◌, arith}
use Rattle.ice_image.proofs.Marked.{free-is, marks-in}
use Rattle.ice_image.proofs.RunBits.{row_bit-is}
use Rattle.ice_image.proofs.extras.free_bits.Goals as goal

pub returns : goal.returns
returns g c = λ k within.
    let args = c.args in
    let planes = g.P.Bits in
    let need = c.requires in
    let set = row_bit-is planes.WIDTH planes.HEIGHT args.cram.now c.row_bits-set.ensures.whole args.bank args.px args.py args.count need.bank need.columns need.row c.row_bits-set.result k within c.row_bits-set.ensures.bits in
    let marks : c.marks_of.result < planes.HEIGHT = omega (arith, marks-in args.layout.now.device args.py c.marks_of.result c.marks_of.ensures, need.size.height_is) in
    let mark = row_bit-is planes.WIDTH planes.HEIGHT args.owned.now c.row_bits.ensures.whole args.bank args.px c.marks_of.result args.count need.bank need.columns marks c.row_bits.result k within c.row_bits.ensures.bits in
    free-is args.layout.now need.layout args.cram.now args.owned.now args.bank args.px args.py c.marks_of.result c.row_bits-set.result c.row_bits.result k need.owned need.bank (omega (arith, need.row, need.size.height_is)) c.marks_of.ensures c.row_bits.type_inv (omega (arith, need.count)) set mark

use Rattle.std.proofs.Common.{rules}
use Rattle.ice_image.proofs.Gained.{row_gains_in}
use Rattle.ice_image.proofs.Sizes.{image_of-whole}
use Rattle.ice_image.proofs.image.Image.set_ones.Goals as goal

pub returns : goal.returns
returns g c =
    let cram = g.D.Cram.Bits in
    let written = c.set_ones in
    row_gains_in _ c.args.self.now _ cram.WIDTH cram.HEIGHT c.args.x c.args.y c.args.row c.args.ones written.new.cram c.self.view_is (image_of-whole _ _ _ _ _ _ c.self.invariant) c.self.invariant.cram_size c.requires written.ensures.written written.ensures.whole (search rules)

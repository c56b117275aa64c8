use Rattle.std.proofs.Common.{rules, arith}
use Rattle.ice_image.proofs.Gained.{word_gains_in}
use Rattle.ice_image.proofs.Sizes.{image_of-whole}
use Rattle.ice_image.proofs.image.Image.set_word_ones.Goals as goal

pub returns : goal.returns
returns g c =
    let bram = g.D.Bram.Bits in
    let written = c.set_ones_of_word in
    word_gains_in _ c.args.self.now _ bram.WIDTH bram.HEIGHT c.args.x c.args.y c.args.word c.args.ones written.new.bram c.self.view_is (image_of-whole _ _ _ _ _ _ c.self.invariant) c.self.invariant.bram_size c.requires (omega arith) written.ensures.written written.ensures.whole (search rules)

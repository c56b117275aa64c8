use Rattle.std.proofs.Common.{rules, arith}
use Rattle.ice_image.proofs.Changed.{word_written_in}
use Rattle.ice_image.proofs.Sizes.{image_of-whole}
use Rattle.ice_image.proofs.image.Image.set_ram_word.Goals as goal

pub returns-clause-bits : goal.returns-clause-bits
returns-clause-bits g c =
    let bram = g.D.Bram.Bits in
    let written = c.write_word in
    word_written_in _ c.args.self.now _ bram.WIDTH bram.HEIGHT c.args.x c.args.y c.args.word c.args.value written.new.bram c.self.view_is (image_of-whole _ _ _ _ _ _ c.self.invariant) c.self.invariant.bram_size c.requires (omega arith) written.ensures.value written.ensures.others written.ensures.whole (search rules)

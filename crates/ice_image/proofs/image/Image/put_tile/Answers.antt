use Rattle.std.proofs.Common.{rules}
use Rattle.ice_image.proofs.Changed.{tile_written_in}
use Rattle.ice_image.proofs.Sizes.{image_of-whole}
use Rattle.ice_image.proofs.image.Image.put_tile.Goals as goal

pub returns-clause-bits : goal.returns-clause-bits
returns-clause-bits g c =
    let cram = g.D.Cram.Bits in
    let written = c.write_tile in
    tile_written_in _ c.args.self.now _ cram.WIDTH cram.HEIGHT c.args.x c.args.y c.args.tile.now written.new.cram c.self.view_is (image_of-whole _ _ _ _ _ _ c.self.invariant) c.self.invariant.cram_size written.ensures.tile written.ensures.others written.ensures.whole (search rules)

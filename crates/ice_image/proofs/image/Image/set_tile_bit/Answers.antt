use Rattle.std.proofs.Common.{rules, subst}
use Rattle.ice_image.specs.Configuration.{IsWhole}
use Rattle.ice_image.proofs.Bits.{tile_set_in}
use Rattle.ice_image.proofs.Sizes.{image_of-whole}
use Rattle.ice_image.proofs.image.Image.set_tile_bit.Goals as goal

pub returns-clause-bits : goal.returns-clause-bits
returns-clause-bits g c =
    let before = c.args.self.now in
    let whole : IsWhole before = subst IsWhole c.self.view_is (image_of-whole _ _ _ _ _ _ c.self.invariant) in
    tile_set_in before _ c.args.at c.args.bit whole c.requires (search rules)

use Rattle.ice_image.proofs.BankBits.{AreBanks-with_bank}
use Rattle.ice_image.proofs.Sizes.{image_of-cram}
use Rattle.ice_image.proofs.image.Image.cram_mut.Goals as goal

pub invariant_of-self-lent : goal.invariant_of-self-lent
invariant_of-self-lent g c plane =
    image_of-cram _ _ _ _ _ _ c.self.invariant _ (AreBanks-with_bank _ _ c.self.inside.cram _ (g.D.Cram.Bits.rows plane) c.self.invariant.cram (g.met.D.Cram.Bits.is_grid plane))

use Rattle.std.proofs.Common.{subst}
use Rattle.std.proofs.lemmas.Result.{IfOk-weaker}
use Rattle.ice_image.specs.Configuration.{Configuration}
use Rattle.ice_image.specs.Extras.{AreSetExtras}
use Rattle.ice_image.proofs.SetExtras.{set_extras-is}
use Rattle.ice_image.proofs.image.Image.extra_bits.Goals as goal

pub returns-clause-bits : goal.returns-clause-bits
returns-clause-bits g c =
    IfOk-weaker c.extras_of.result _ _ (λ places are. set_extras-is c.args.self.now places.items (subst (λ (image : Configuration). AreSetExtras image.layout image.cram places.items) c.self.view_is are)) c.extras_of.ensures

use Rattle.std.proofs.Common.{ap, ◌∙◌}
use Rattle.ice_image.specs.Configuration.{place_bit}
use Rattle.ice_image.proofs.BankBits.{place_bit-none}
use Rattle.ice_image.proofs.extras.owned_places.Goals as goal

pub mark_banks-requires-clause-blank : goal.mark_banks-requires-clause-blank
mark_banks-requires-clause-blank g c = λ at. ap (λ planes. place_bit planes at) c.in_ok-owned.ensures.planes ∙ place_bit-none g.P.Bits.WIDTH g.P.Bits.HEIGHT at

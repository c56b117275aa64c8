use Rattle.std.proofs.Common.{[], sym, subst, ◌∙◌}
use Rattle.ice_image.specs.Either.{configuration_of}
use Rattle.asc_text.specs.Meaning.{AscMeans}
use Rattle.asc_text.proofs.Pieces.{around-written}
use Rattle.asc_text.proofs.RoundTrip.{means_of_text}
use Rattle.asc_text.proofs.writing.canonical.CanonicalText.of.Goals as goal

pub returns-clause-text : goal.returns-clause-text
returns-clause-text c =
    around-written (configuration_of c.args.image) c.new-around.result.items c.append_head.new.text.items c.append_extra_bits.new.text.items c.len-following.result c.new-around.ensures.items c.in_ok-append_head.ensures.text (c.len-following.ensures ∙ c.append_head.new.text.ok.0) c.in_ok-append_extra_bits.ensures

pub returns-clause-means : goal.returns-clause-means
returns-clause-means c =
    λ layouts has. subst (λ text. AscMeans layouts text (configuration_of c.args.image) []) (sym (returns-clause-text c))
    (means_of_text layouts (configuration_of c.args.image) has c.in_ok-append_head.ensures.whole c.in_ok-append_head.ensures.lines)

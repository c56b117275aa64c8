use Rattle.std.proofs.Common.{[], sym, subst}
use Rattle.ice_image.specs.Either.{configuration_of}
use Rattle.asc_text.specs.Meaning.{AscMeans}
use Rattle.asc_text.proofs.RoundTrip.{means_of_text}
use Rattle.asc_text.proofs.Pieces.{text-written}
use Rattle.asc_text.proofs.writing.writer.write.Goals as goal

pub returns-clause-text : goal.returns-clause-text
returns-clause-text c =
    text-written (configuration_of c.args.image.now) c.in_ok-text.text.items c.append_head.new.text.items c.append_tiles.new.text.items c.append_extra_bits.new.text.items c.in_ok-text.ensures.items c.in_ok-append_head.ensures.text c.in_ok-append_tiles.ensures c.in_ok-append_extra_bits.ensures

pub returns-clause-means : goal.returns-clause-means
returns-clause-means c =
    λ layouts has. subst (λ text. AscMeans layouts text (configuration_of c.args.image.now) []) (sym (returns-clause-text c))
    (means_of_text layouts (configuration_of c.args.image.now) has c.device.ensures.whole c.in_ok-append_head.ensures.lines)

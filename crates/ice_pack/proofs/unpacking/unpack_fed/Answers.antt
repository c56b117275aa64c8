-- What was unpacked is packed back.
use Rattle.std.proofs.Common.{◌∙◌, sym}
use Rattle.ice_image.specs.Either.{configuration_of}
use Rattle.asc_text.specs.InPieces.{canonical_in}
use Rattle.bin_stream.specs.Spelling.{Spells}
use Rattle.ice_pack.proofs.BothWays.{packs_back}
use Rattle.ice_pack.proofs.unpacking.unpack_fed.Goals as goal

pub returns-clause-unpacked : goal.returns-clause-unpacked
returns-clause-unpacked c = λ layouts bytes stands.
    let image = configuration_of c.in_ok-image.image in
    let read = c.in_ok-image.ensures.image layouts bytes stands in
    let spells : Spells layouts bytes image = ((c.finish.ensures.decided layouts bytes stands).spelled image).1 read in
    record {
      image = image;
      read = read;
      spells = spells;
      canonical = c.in_ok-of.ensures.text;
      means = c.in_ok-of.ensures.means layouts spells.layout;
    }

pub returns-clause-back : goal.returns-clause-back
returns-clause-back c = λ layouts bytes stands.
    packs_back layouts bytes (canonical_in c.in_ok-of.field-0) (c.finish.ensures.decided layouts bytes stands) (returns-clause-unpacked c layouts bytes stands)

pub returns-clause-itself : goal.returns-clause-itself
returns-clause-itself c = λ layouts bytes stands image packed spells canonical again.
    returns-clause-back c layouts bytes stands image packed spells again ∙ sym canonical

-- What was unpacked is packed back.
use Rattle.std.proofs.Common.{◌∙◌, sym}
use Rattle.ice_image.specs.Either.{configuration_of}
use Rattle.bin_stream.specs.Spelling.{Spells}
use Rattle.ice_pack.proofs.BothWays.{packs_back}
use Rattle.ice_pack.proofs.unpacking.unpack_with.Goals as goal

pub returns-clause-unpacked : goal.returns-clause-unpacked
returns-clause-unpacked c =
    let layouts = c.args.layouts in
    let image = configuration_of c.in_ok-image.image in
    let spells : Spells layouts c.args.bin.now image = (c.decode_with.ensures.decided.spelled image).1 c.in_ok-image.ensures.image in
    record {
      image = image;
      read = c.in_ok-image.ensures.image;
      spells = spells;
      canonical = c.in_ok-write.ensures.text;
      means = c.in_ok-write.ensures.means layouts spells.layout;
    }

pub returns-clause-back : goal.returns-clause-back
returns-clause-back c =
    packs_back c.args.layouts c.args.bin.now c.in_ok-write.field-0.items c.decode_with.ensures.decided (returns-clause-unpacked c)

pub returns-clause-itself : goal.returns-clause-itself
returns-clause-itself c = λ image packed spells canonical again. returns-clause-back c image packed spells again ∙ sym canonical

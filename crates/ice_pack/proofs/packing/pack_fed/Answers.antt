-- The text's image has a layout of these, so that what was written is read back under them.
use Rattle.std.proofs.Common.{ap, subst, ◌∙◌}
use Rattle.std.specs.Prelude.{Ok}
use Rattle.layout_file.specs.Layouts.{HasLayout}
use Rattle.ice_image.specs.Configuration.{Configuration}
use Rattle.ice_image.specs.Either.{configuration_of}
use Rattle.asc_text.specs.Meaning.{asc_symbols_of}
use Rattle.bin_stream.specs.CanonicalBytes.{canonical_bytes}
use Rattle.bin_stream.specs.Spelling.{Spells}
use Rattle.ice_pack.proofs.BothWays.{packs_alike, unpacks_back}
use Rattle.ice_pack.proofs.Laid.{has_layout_awake}
use Rattle.ice_pack.proofs.packing.pack_fed.Goals as goal

pub returns-clause-packed : goal.returns-clause-packed
returns-clause-packed c = λ layouts text stands.
    let image = configuration_of c.in_ok-image.image in
    let awake = configuration_of c.keep_awake.new.image in
    let means = c.in_ok-image.ensures.means layouts text stands in
    let kept : HasLayout layouts awake.layout = has_layout_awake layouts stands.laid text image awake c.args.no_sleep means.configures c.keep_awake.ensures in
    record {
      image = image;
      symbols = asc_symbols_of text;
      means = means;
      canonical = c.in_ok-encode.ensures.bytes ∙ ap canonical_bytes c.keep_awake.ensures;
      spells = subst (λ (image : Configuration). Spells layouts c.in_ok-encode.field-0.items image) c.keep_awake.ensures (c.in_ok-encode.ensures.spells layouts kept);
      read = c.in_ok-encode.ensures.read layouts kept ∙ ap (λ (image : Configuration). Ok image) c.keep_awake.ensures;
    }

pub returns-clause-alike : goal.returns-clause-alike
returns-clause-alike c = λ layouts text stands.
    packs_alike layouts text c.args.no_sleep c.in_ok-encode.field-0.items (returns-clause-packed c layouts text stands)

pub returns-clause-back : goal.returns-clause-back
returns-clause-back c = λ layouts text stands.
    unpacks_back layouts text c.args.no_sleep c.in_ok-encode.field-0.items (returns-clause-packed c layouts text stands)

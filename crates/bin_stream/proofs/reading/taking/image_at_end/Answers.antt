use Rattle.std.proofs.Common.{◌∙◌, ap, sym}
use Rattle.std.specs.Prelude.{Ok}
use Rattle.ice_image.specs.Configuration.{Configuration}
use Rattle.ice_image.specs.declared.settings.Settings.{Settings}
use Rattle.ice_image.specs.Either.{configuration_of}
use Rattle.bin_stream.proofs.reading.taking.image_at_end.Goals as goal

pub returns-in-Some-clause-image : goal.returns-in-Some-clause-image
returns-in-Some-clause-image c = λ layouts all woken.
    let drawn : Configuration = configuration_of c.in-Some.image in
    let with_settings : Settings → Configuration = λ settings. record drawn { settings = settings } in
    woken.read c.set_settings.new.self (record {
      before = c.in-Some.image;
      drawn_is = c.in-Some.is;
      same_device = c.set_settings.ensures.device;
      settings_are = c.set_settings.ensures.changed ∙ ap with_settings c.settings.ensures;
    }) ∙ ap (λ image. Ok image) (sym c.set_comment.ensures.changed)

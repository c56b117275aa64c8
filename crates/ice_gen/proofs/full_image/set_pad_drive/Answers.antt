use Rattle.std.proofs.Common.{◌≡◌, ◌∙◌, ap, sym, subst, false}
use Rattle.plane_map.specs.Layout.{Layout}
use Rattle.plane_map.specs.declared.tile.Place.{Place}
use Rattle.ice_image.specs.Either.{configuration_of, device_of}
use Rattle.ice_image.specs.Owned.{is_extra}
use Rattle.ice_gen.specs.Database.{pad_drive}
use Rattle.ice_gen.proofs.Generated.{generated-set, generated-unset}
use Rattle.ice_gen.proofs.full_image.set_pad_drive.Goals as goal

pub returns-in-Some : goal.returns-in-Some
returns-in-Some c =
    let device = device_of c.args.image.now in
    let named : Place = record { bank = c.from.result; px = c.from-2.result; py = c.from-3.result } in
    let named_is : named ≡ c.pad_drive-at.result = λ i. record { bank = c.from.ensures i; px = c.from-2.ensures i; py = c.from-3.ensures i } in
    let at_is : c.in-Some.at ≡ pad_drive device = c.in-Some.ensures.1 ∙ named_is ∙ c.pad_drive-at.ensures ∙ ap pad_drive c.device.ensures.device in
    λ seed filled. generated-set device seed c.in-Some.at (configuration_of c.args.image.now) (configuration_of c.set_extra_bit.new.self) at_is c.set_extra_bit.ensures.bits filled

pub returns-in_default : goal.returns-in_default
returns-in_default c =
    let device = device_of c.args.image.now in
    let named : Place = record { bank = c.from.result; px = c.from-2.result; py = c.from-3.result } in
    let named_is : named ≡ c.pad_drive-at.result = λ i. record { bank = c.from.ensures i; px = c.from-2.ensures i; py = c.from-3.ensures i } in
    let pad_is : named ≡ pad_drive device = named_is ∙ c.pad_drive-at.ensures ∙ ap pad_drive c.device.ensures.device in
    let layout = (configuration_of c.args.image.now).layout in
    let none : is_extra layout (pad_drive device) ≡ false = ap (is_extra layout) (sym pad_is) ∙ c.in_default.ensures in
    λ seed filled. generated-unset device seed (configuration_of c.args.image.now) (subst (λ (l : Layout). is_extra l (pad_drive device) ≡ false) filled.layout_is none) filled

use Rattle.std.proofs.Common.{◌≡◌, ◌∙◌, ap, sym}
use Rattle.plane_map.specs.Devices.{has_database}
use Rattle.plane_map.specs.Layout.{standard_layout}
use Rattle.ice_image.specs.Configuration.{Configuration, blank_image}
use Rattle.ice_image.specs.Either.{configuration_of, device_of}
use Rattle.ice_gen.proofs.Filled.{blank-filled}
use Rattle.ice_gen.proofs.full_image.image.Goals as goal

pub fill_tiles-requires-clause-filled : goal.fill_tiles-requires-clause-filled
fill_tiles-requires-clause-filled c =
    let image = c.in_ok-image.image in
    let device : device_of image ≡ c.args.device = ap (λ (c : Configuration). c.layout.device) c.in_ok-image.ensures in
    blank-filled (device_of image) _ (configuration_of image) (c.in_ok-image.ensures ∙ ap (λ d. blank_image (standard_layout d)) (sym device))

pub fill_tiles-requires-clause-database : goal.fill_tiles-requires-clause-database
fill_tiles-requires-clause-database c =
    let device : device_of c.in_ok-image.image ≡ c.args.device = ap (λ (c : Configuration). c.layout.device) c.in_ok-image.ensures in
    ap has_database device ∙ c.requires

pub fill_rams-requires-clause-database : goal.fill_rams-requires-clause-database
fill_rams-requires-clause-database c =
    let device : device_of c.in_ok-image.image ≡ c.args.device = ap (λ (c : Configuration). c.layout.device) c.in_ok-image.ensures in
    ap has_database (c.fill_tiles.ensures.device ∙ device) ∙ c.requires

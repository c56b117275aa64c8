use Rattle.std.proofs.Common.{◌≡◌, None, ap}
use Rattle.plane_map.specs.Layout.{kind_of}
use Rattle.ice_image.specs.Either.{configuration_of}
use Rattle.asc_text.proofs.Pieces.{nothing-written}
use Rattle.image_diff.specs.Differences.{ram_changes}
use Rattle.image_diff.proofs.rams.append_place.Goals as goal

pub returns-in-None : goal.returns-in-None
returns-in-None c =
    let first = configuration_of c.args.first.now in
    let second = configuration_of c.args.second.now in
    let none : kind_of first.layout.device c.args.x c.args.y ≡ None = cc (c.in-None.ensures.kind, c.device.ensures.device, c.from.ensures, c.from-2.ensures) in
    nothing-written c.args.text.now.items (ram_changes first second c.args.x c.args.y (kind_of first.layout.device c.args.x c.args.y)) (ap (ram_changes first second c.args.x c.args.y) none)

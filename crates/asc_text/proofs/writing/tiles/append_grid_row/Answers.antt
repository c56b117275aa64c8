use Rattle.std.proofs.Common.{ℕ, List, ◌≡◌, ap, arith}
use Rattle.plane_map.specs.Layout.{kind_of, grid_width}
use Rattle.ice_image.specs.Either.{configuration_of, device_of}
use Rattle.asc_text.specs.Canonical.{lines_of_tile_at}
use Rattle.asc_text.proofs.Pieces.{gathered-all}
use Rattle.asc_text.proofs.writing.tiles.append_grid_row.Goals as goal

pub returns-clause-text : goal.returns-clause-text
returns-clause-text c =
    let all_columns : c.loop-x.x ≡ grid_width (device_of c.args.image.now) = omega (arith, ap grid_width c.device.ensures.device) in
    let given : ℕ → List (List ℕ) = λ x. lines_of_tile_at (configuration_of c.args.image.now) x c.args.y (kind_of (configuration_of c.args.image.now).layout.device x c.args.y) in
    gathered-all c.args.text.now.items c.loop-x.text.items c.loop-x.x (grid_width (configuration_of c.args.image.now).layout.device) given all_columns c.loop-x.invariant.text

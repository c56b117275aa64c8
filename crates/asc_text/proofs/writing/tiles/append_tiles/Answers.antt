use Rattle.std.proofs.Common.{ℕ, List, ◌≡◌, ap, arith}
use Rattle.index_search.specs.Places.{gathered_below}
use Rattle.plane_map.specs.Layout.{kind_of, grid_width, grid_height}
use Rattle.ice_image.specs.Either.{configuration_of, device_of}
use Rattle.asc_text.specs.Canonical.{lines_of_tile_at}
use Rattle.asc_text.proofs.Pieces.{gathered-all}
use Rattle.asc_text.proofs.writing.tiles.append_tiles.Goals as goal

pub returns : goal.returns
returns c =
    let all_rows : c.loop-y.y ≡ grid_height (device_of c.args.image.now) = omega (arith, ap grid_height c.device.ensures.device) in
    let given : ℕ → List (List ℕ) = λ y. gathered_below (grid_width (configuration_of c.args.image.now).layout.device) (λ x. lines_of_tile_at (configuration_of c.args.image.now) x y (kind_of (configuration_of c.args.image.now).layout.device x y)) in
    gathered-all c.args.text.now.items c.loop-y.text.items c.loop-y.y (grid_height (configuration_of c.args.image.now).layout.device) given all_rows c.loop-y.invariant

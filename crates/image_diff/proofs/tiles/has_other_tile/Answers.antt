use Rattle.std.proofs.Common.{◌≡◌, ◌<◌, sym, ◌∙◌, ap, subst, arith}
use Rattle.index_search.specs.Places.{any_below}
use Rattle.index_search.proofs.Places.{any_below-at}
use Rattle.plane_map.specs.Layout.{grid_height, grid_width}
use Rattle.ice_image.specs.Either.{configuration_of}
use Rattle.image_diff.specs.Differences.{is_other_tile}
use Rattle.image_diff.specs.Inside.{has_other_tile}
use Rattle.image_diff.proofs.tiles.has_other_tile.Goals as goal

pub returns-then-has_other_tile_in_row : goal.returns-then-has_other_tile_in_row
unfolding has_other_tile
returns-then-has_other_tile_in_row c =
    let first = configuration_of c.args.first.now in
    let second = configuration_of c.args.second.now in
    let high : c.rows-y-end.result ≡ grid_height first.layout.device = c.rows-y-end.ensures ∙ ap grid_height c.device.ensures.device in
    let within : c.loop-y.y < grid_height first.layout.device = subst (λ n. c.loop-y.y < n) high c.loop-y-test.true in
    sym (any_below-at (grid_height first.layout.device) c.loop-y.y (λ y. any_below (grid_width first.layout.device) (λ x. is_other_tile first second x y)) within
    (sym c.has_other_tile_in_row.ensures ∙ c.if-has_other_tile_in_row.true))

pub returns : goal.returns
unfolding has_other_tile
returns c =
    let first = configuration_of c.args.first.now in
    let second = configuration_of c.args.second.now in
    let high : c.rows-y-end.result ≡ grid_height first.layout.device = c.rows-y-end.ensures ∙ ap grid_height c.device.ensures.device in
    let last : c.loop-y.y ≡ c.rows-y-end.result = omega arith in
    sym (ap (λ n. any_below n (λ y. any_below (grid_width first.layout.device) (λ x. is_other_tile first second x y))) (sym (last ∙ high)) ∙ c.loop-y.invariant)

use Rattle.std.proofs.Common.{◌≡◌, sym, ◌∙◌, ap, arith}
use Rattle.index_search.specs.Places.{any_below}
use Rattle.plane_map.specs.Layout.{grid_width}
use Rattle.ice_image.specs.Either.{configuration_of}
use Rattle.image_diff.specs.Differences.{is_other_tile}
use Rattle.image_diff.proofs.tiles.has_other_tile_in_row.Goals as goal

pub returns : goal.returns
returns c =
    let first = configuration_of c.args.first.now in
    let second = configuration_of c.args.second.now in
    let wide : c.columns-x-end.result ≡ grid_width first.layout.device = c.columns-x-end.ensures ∙ ap grid_width c.device.ensures.device in
    let last : c.loop-x.x ≡ c.columns-x-end.result = omega arith in
    sym (ap (λ n. any_below n (λ x. is_other_tile first second x c.args.y)) (sym (last ∙ wide)) ∙ c.loop-x.invariant)

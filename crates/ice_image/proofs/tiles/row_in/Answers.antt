use Rattle.std.proofs.Common.{◌∙◌, ap}
use Rattle.plane_map.specs.Layout.{columns_at, column_of}
use Rattle.plane_map.specs.Runs.{run_place}
use Rattle.bit_plane.specs.BitList.{word_of}
use Rattle.bit_plane.specs.Rows.{row_from}
use Rattle.ice_image.specs.Configuration.{place_bit}
use Rattle.ice_image.specs.Contents.{tile_place}
use Rattle.ice_image.proofs.Made.{row_word-below}
use Rattle.ice_image.proofs.Spread.{row-gathered}
use Rattle.ice_image.proofs.tiles.row_in.Goals as goal

pub gathered-requires-clause-small : goal.gathered-requires-clause-small
gathered-requires-clause-small g c =
    row_word-below c.args.runs.length (λ k. place_bit c.args.cram.now (run_place c.run_of_row-run.result c.args.runs.length k)) c.run_word.result
    (c.run_word.ensures ∙ ap (λ n. word_of (row_from n (λ k. place_bit c.args.cram.now (run_place c.run_of_row-run.result n k)))) c.from.ensures)

pub returns : goal.returns
returns g c =
    let layout = c.args.layout.now in
    let runs = c.args.runs in
    let run = c.run_of_row-run in
    row-gathered (run_place run.result runs.length) runs.length (tile_place layout runs.x runs.y c.args.row) (columns_at layout.device runs.x runs.y)
    (λ col. column_of layout (record { x = runs.x; y = runs.y; row = c.args.row; col = col })) c.args.cram.now c.run_word.result c.gathered.result run.ensures.columns run.ensures.places
    (c.run_word.ensures ∙ ap (λ n. word_of (row_from n (λ k. place_bit c.args.cram.now (run_place run.result n k)))) c.from.ensures) (c.gathered.ensures c.args.row)

use Rattle.std.proofs.Common.{ℕ, ◌∙◌, ap, subst, arith, bit_and, bit_or, w64}
use Rattle.std.specs.Int.{bit_not}
use Rattle.bit_plane.specs.BitList.{word_of}
use Rattle.bit_plane.specs.Rows.{row_from}
use Rattle.plane_map.specs.Layout.{columns_at, column_of}
use Rattle.plane_map.specs.Runs.{run_place}
use Rattle.plane_map.proofs.RunPlaces.{run_length-few}
use Rattle.ice_image.specs.Configuration.{place_bit}
use Rattle.ice_image.specs.Contents.{tile_place}
use Rattle.ice_image.specs.Written.{IsWritten, bit_of_word}
use Rattle.ice_image.proofs.Spread.{row-written}
use Rattle.ice_image.proofs.TileColumns.{columns_at-le, tile_place-same}
use Rattle.ice_image.proofs.tiles.write_row_in.Goals as goal

pub returns-clause-written : goal.returns-clause-written
returns-clause-written g c =
    let layout = c.args.layout.now in
    let runs = c.args.runs in
    let run = c.run_of_row-run in
    let before = c.args.cram.now in
    let after = c.write_run.new.planes in
    let kept = c.run_word.result in
    let all = c.spread.result in
    let part = c.spread-2.result in
    let written = subst (λ (n : ℕ). IsWritten (run_place run.result n) (bit_of_word n (bit_or (bit_and kept (bit_not w64 all)) part)) n before after) c.from-length.ensures c.write_run.ensures.written in
    row-written (run_place run.result runs.length) runs.length (tile_place layout runs.x runs.y c.args.row) (columns_at layout.device runs.x runs.y)
    (λ col. column_of layout (record { x = runs.x; y = runs.y; row = c.args.row; col = col })) c.args.word all part kept before after run.ensures.columns run.ensures.places
    (λ k j within inside same. (tile_place-same layout c.requires.layout runs.x runs.y c.args.row k c.args.row j c.requires.row within c.requires.row inside same).1)
    (omega (arith, c.requires.runs.length, run_length-few layout.device runs.x runs.y)) (omega (arith, columns_at-le layout.device runs.x runs.y)) c.spread.type_inv
    (c.run_word.ensures ∙ ap (λ n. word_of (row_from n (λ k. place_bit before (run_place run.result n k)))) c.from-length.ensures) (c.spread.ensures c.args.row) (c.spread-2.ensures c.args.row) written

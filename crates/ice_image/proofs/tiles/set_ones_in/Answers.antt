use Rattle.std.proofs.Common.{ℕ, subst}
use Rattle.plane_map.specs.Layout.{columns_at, column_of}
use Rattle.plane_map.specs.Runs.{run_place}
use Rattle.ice_image.specs.Contents.{tile_place}
use Rattle.ice_image.specs.Written.{IsWritten, gained_bit}
use Rattle.ice_image.proofs.Spread.{row-gained}
use Rattle.ice_image.proofs.TileColumns.{tile_place-same}
use Rattle.ice_image.proofs.tiles.set_ones_in.Goals as goal

pub returns-clause-written : goal.returns-clause-written
returns-clause-written g c =
    let layout = c.args.layout.now in
    let runs = c.args.runs in
    let run = c.run_of_row-run in
    let before = c.args.cram.now in
    let after = c.set_run_ones.new.planes in
    let spread = c.spread-spread.result in
    let written = subst (λ (n : ℕ). IsWritten (run_place run.result n) (gained_bit (run_place run.result n) before spread) n before after) c.from.ensures c.set_run_ones.ensures.written in
    row-gained (run_place run.result runs.length) runs.length (tile_place layout runs.x runs.y c.args.row) (columns_at layout.device runs.x runs.y)
    (λ col. column_of layout (record { x = runs.x; y = runs.y; row = c.args.row; col = col })) c.args.ones spread before after run.ensures.columns run.ensures.places
    (λ k j within inside same. (tile_place-same layout c.requires.layout runs.x runs.y c.args.row k c.args.row j c.requires.row within c.requires.row inside same).1) (c.spread-spread.ensures c.args.row) written

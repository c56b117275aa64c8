use Rattle.std.proofs.Common.{slice_index, arith}
use Rattle.plane_map.specs.Layout.{columns_at, column_of}
use Rattle.plane_map.proofs.RunPlaces.{run_length-few}
use Rattle.ice_image.proofs.Spread.{spread-as, spread-same}
use Rattle.ice_image.proofs.columns.spread.Goals as goal

pub returns-in-Some : goal.returns-in-Some
returns-in-Some c row =
    let layout = c.args.layout.now in
    let runs = c.args.runs in
    spread-as (slice_index c.in-Some.columns.now) (λ col. column_of layout (record { x = runs.x; y = runs.y; row = row; col = col })) 18 (columns_at layout.device runs.x runs.y) 64 runs.length c.args.row_bits c.spread_over.result
    c.in-Some.ensures.eighteen (omega (arith, c.requires.length, run_length-few layout.device runs.x runs.y)) (λ col. c.in-Some.ensures.order row col) c.spread_over.ensures

pub returns-in-None : goal.returns-in-None
returns-in-None c row =
    let layout = c.args.layout.now in
    let runs = c.args.runs in
    spread-same (λ col. column_of layout (record { x = runs.x; y = runs.y; row = row; col = col })) (columns_at layout.device runs.x runs.y) runs.length c.args.row_bits
    c.in-None.ensures.whole (λ col. c.in-None.ensures.order row col)

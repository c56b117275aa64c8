use Rattle.std.proofs.Common.{slice_index}
use Rattle.plane_map.specs.Layout.{columns_at, column_of}
use Rattle.ice_image.proofs.Spread.{gathered-as, gathered-same}
use Rattle.ice_image.proofs.columns.gathered.Goals as goal

pub returns-in-Some : goal.returns-in-Some
returns-in-Some c row =
    let layout = c.args.layout.now in
    let runs = c.args.runs in
    gathered-as (slice_index c.in-Some.columns.now) (λ col. column_of layout (record { x = runs.x; y = runs.y; row = row; col = col })) 18 (columns_at layout.device runs.x runs.y) c.args.run_bits c.gathered_from.result
    c.in-Some.ensures.eighteen (λ col. c.in-Some.ensures.order row col) c.gathered_from.ensures

pub returns-in-None : goal.returns-in-None
returns-in-None c row =
    let layout = c.args.layout.now in
    let runs = c.args.runs in
    gathered-same (λ col. column_of layout (record { x = runs.x; y = runs.y; row = row; col = col })) (columns_at layout.device runs.x runs.y) runs.length c.args.run_bits
    c.in-None.ensures.whole c.requires.small (λ col. c.in-None.ensures.order row col)

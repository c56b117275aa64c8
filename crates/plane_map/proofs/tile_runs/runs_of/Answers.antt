use Rattle.std.proofs.Common.{arith}
use Rattle.plane_map.proofs.Layouts.{columns_at-in}
use Rattle.plane_map.proofs.RunPlaces.{run-parts, there-some}
use Rattle.plane_map.proofs.tile_runs.runs_of.Goals as goal

pub side_distance-column-requires : goal.side_distance-column-requires
side_distance-column-requires c =
    let args = c.args in
    rw c.device-device.ensures.device (columns_at-in args.layout.now.device args.x args.y 0 (there-some args.layout.now.device args.x args.y args.kind c.requires.there)).0

pub run_start-requires-clause-fits : goal.run_start-requires-clause-fits
run_start-requires-clause-fits c =
    let args = c.args in
    let layout = args.layout.now in
    let some = there-some layout.device args.x args.y args.kind c.requires.there in
    let count = c.run_length-length.ensures args.y (rw c.device-device.ensures.device c.requires.there) in
    rw (count, c.side_distance-column.ensures, c.device-device.ensures.device) (run-parts layout c.requires.layout args.x args.y 0 (omega arith) 0 some).1

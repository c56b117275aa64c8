use Rattle.std.proofs.Common.{ℕ, ◌<◌, subst, sym}
use Rattle.plane_map.specs.Layout.{column_of}
use Rattle.plane_map.proofs.RunPlaces.{run-in, run-parts, run-place}
use Rattle.plane_map.proofs.tile_runs.run_of_row.Goals as goal

pub returns-clause-in_planes : goal.returns-clause-in_planes
returns-clause-in_planes c =
    let args = c.args in
    rw c.py_of.ensures.value (run-in args.layout.now c.py_of.ensures.layout args.runs.x args.runs.y args.row c.requires.row args.runs c.requires.runs)

pub returns-clause-columns : goal.returns-clause-columns
returns-clause-columns c col within =
    let args = c.args in
    subst (λ (n : ℕ). column_of args.layout.now (record { x = args.runs.x; y = args.runs.y; row = args.row; col = col }) < n) (sym c.requires.runs.length)
    (run-parts args.layout.now c.py_of.ensures.layout args.runs.x args.runs.y args.row c.requires.row col within).0

pub returns-clause-places : goal.returns-clause-places
returns-clause-places c col within =
    let args = c.args in
    rw c.py_of.ensures.value (run-place args.layout.now c.py_of.ensures.layout args.runs.x args.runs.y args.row c.requires.row args.runs c.requires.runs col within)

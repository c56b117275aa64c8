use Rattle.std.proofs.Common.{◌≡◌, ◌+◌}
use Rattle.plane_map.specs.Layout.{start_of}
use Rattle.plane_map.proofs.columns.column_at.Given as goal

abbrev pub invariant-loop-distance : goal.invariant-loop-distance
invariant-loop-distance l = start_of l.layout l.distance + l.inner_px ≡ l.px

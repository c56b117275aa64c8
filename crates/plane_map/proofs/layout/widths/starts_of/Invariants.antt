use Rattle.std.proofs.Common.{◌≡◌, length, take}
use Rattle.plane_map.specs.Inside.{starts_below}
use Rattle.plane_map.specs.Layout.{start_in}
use Rattle.plane_map.proofs.layout.widths.starts_of.Given as goal

abbrev pub invariant-loop-distance : goal.invariant-loop-distance
invariant-loop-distance l = (l.start ≡ start_in l.widths l.distance) × (take l.distance l.starts ≡ starts_below l.widths l.distance) × (length l.starts ≡ 17)

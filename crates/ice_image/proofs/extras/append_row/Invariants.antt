use Rattle.std.proofs.Common.{◌≤◌, ◌-◌}
use Rattle.ice_image.specs.Written.{HasExtras}
use Rattle.ice_image.proofs.InOrder.{place}
use Rattle.ice_image.proofs.extras.append_row.Given as goal

abbrev pub invariant-loop-px : goal.invariant-loop-px
invariant-loop-px g l = (l.px ≤ g.P.Bits.WIDTH) × HasExtras l.layout l.cram (place l.bank l.px l.py) l.places.items

abbrev pub decreases-loop-px : goal.decreases-loop-px
decreases-loop-px g l = g.P.Bits.WIDTH - l.px

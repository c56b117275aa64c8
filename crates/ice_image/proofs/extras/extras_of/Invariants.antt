use Rattle.ice_image.specs.Written.{HasExtras}
use Rattle.ice_image.proofs.InOrder.{place}
use Rattle.ice_image.proofs.extras.extras_of.Given as goal

abbrev pub invariant-loop-bank : goal.invariant-loop-bank
invariant-loop-bank g l = HasExtras l.layout l.cram (place l.bank 0 0) l.places.items

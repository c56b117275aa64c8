use Rattle.ice_image.specs.Written.{HasExtras}
use Rattle.ice_image.proofs.InOrder.{place}
use Rattle.ice_image.proofs.extras.append_bank.Given as goal

abbrev pub invariant-loop-py : goal.invariant-loop-py
invariant-loop-py g l = HasExtras l.layout l.cram (place l.bank 0 l.py) l.places.items

use Rattle.std.proofs.Common.{◌≡◌, take}
use Rattle.ice_image.specs.Either.{configuration_of}
use Rattle.chipdb_reader.specs.Kept.{link_lines}
use Rattle.fabric_model.specs.Found.{links_on}
use Rattle.fabric_model.proofs.on.all_on.Given as goal

abbrev pub invariant-loop-i : goal.invariant-loop-i
invariant-loop-i l = l.on.items ≡ links_on (configuration_of l.image) (link_lines l.db.bits (take l.i l.links))

use Rattle.std.proofs.Common.{◌≡◌, false}
use Rattle.index_search.specs.Places.{any_below}
use Rattle.ice_image.specs.Either.{configuration_of}
use Rattle.chipdb_reader.specs.Kept.{database_in}
use Rattle.fabric_model.specs.Plls.{is_pin_at}
use Rattle.fabric_model.specs.Pins.{global_pad}
use Rattle.fabric_parts.proofs.io.pads.is_global_pad.Given as goal

abbrev pub invariant-loop-g : goal.invariant-loop-g
invariant-loop-g l = any_below l.g (λ g. is_pin_at l.x l.y l.n (global_pad (database_in l.db) (configuration_of l.image) g)) ≡ false

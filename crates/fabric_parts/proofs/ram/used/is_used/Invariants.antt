use Rattle.std.proofs.Common.{◌≡◌, false}
use Rattle.std.specs.Prelude.{codes}
use Rattle.index_search.specs.Places.{any_below}
use Rattle.ice_image.specs.Either.{configuration_of}
use Rattle.chipdb_reader.specs.Kept.{database_in}
use Rattle.fabric_model.specs.Nets.{is_some_read, ending_in}
use Rattle.fabric_model.specs.Rams.{ram_net}
use Rattle.fabric_parts.proofs.ram.used.is_used.Given as goal

abbrev pub invariant-loop-bit : goal.invariant-loop-bit
invariant-loop-bit l =
    any_below l.bit (λ bit. is_some_read (database_in l.db) (configuration_of l.image) (ram_net (database_in l.db) l.x l.y (ending_in (codes "RDATA_") bit))) ≡ false

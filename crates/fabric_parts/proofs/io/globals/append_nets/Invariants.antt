use Rattle.std.proofs.Common.{◌≡◌, ◌++◌, map}
use Rattle.index_search.specs.Places.{gathered_below}
use Rattle.chipdb_reader.specs.Kept.{database_in}
use Rattle.fabric_model.specs.Tiles.{item_if}
use Rattle.fabric_model.specs.Pins.{is_global_net}
use Rattle.fabric_parts.specs.Globals.{global_net}
use Rattle.fabric_parts.proofs.io.globals.append_nets.Given as goal

abbrev pub invariant-loop-net : goal.invariant-loop-net
invariant-loop-net l =
    l.globals.items ≡ l.initial.globals.items ++ map (global_net l.g l.from) (gathered_below l.net (λ net. item_if (is_global_net (database_in l.db) l.g net) net))

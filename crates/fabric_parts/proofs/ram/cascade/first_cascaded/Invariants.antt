use Rattle.std.proofs.Common.{◌≡◌, [], take}
use Rattle.std.specs.List.{flat_map}
use Rattle.ice_image.specs.Either.{configuration_of}
use Rattle.chipdb_reader.specs.Kept.{database_in}
use Rattle.chipdb_reader.specs.declared.items.TileXy8.{TileXy8}
use Rattle.fabric_parts.specs.RamFaults.{cascade_at}
use Rattle.fabric_parts.proofs.ram.cascade.first_cascaded.Given as goal

abbrev pub invariant-loop-ram : goal.invariant-loop-ram
invariant-loop-ram l = flat_map (λ (tile : TileXy8). cascade_at (database_in l.db) (configuration_of l.image) tile.x tile.y) (take l.ram-index l.rams) ≡ []

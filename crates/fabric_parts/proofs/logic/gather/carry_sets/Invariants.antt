use Rattle.std.proofs.Common.{◌≡◌, take}
use Rattle.std.specs.List.{flat_map}
use Rattle.ice_image.specs.Either.{configuration_of}
use Rattle.chipdb_reader.specs.Kept.{database_in}
use Rattle.chipdb_reader.specs.declared.items.TileXy8.{TileXy8}
use Rattle.fabric_model.specs.Cells.{sets_at}
use Rattle.fabric_parts.proofs.logic.gather.carry_sets.Given as goal

abbrev pub invariant-loop-tile : goal.invariant-loop-tile
invariant-loop-tile l = l.sets.items ≡ flat_map (λ (tile : TileXy8). sets_at (database_in l.db) (configuration_of l.image) tile.x tile.y) (take l.tile-index l.tiles)

use Rattle.std.proofs.Common.{◌≡◌, take}
use Rattle.std.specs.Prelude.{filter}
use Rattle.ice_image.specs.Either.{configuration_of}
use Rattle.chipdb_reader.specs.Kept.{database_in}
use Rattle.chipdb_reader.specs.declared.items.TileXy8.{TileXy8}
use Rattle.fabric_model.specs.Rams.{is_ram_used}
use Rattle.fabric_parts.proofs.ram.used.used_rams.Given as goal

abbrev pub invariant-loop-tile : goal.invariant-loop-tile
invariant-loop-tile l = l.rams.items ≡ filter (λ (tile : TileXy8). is_ram_used (database_in l.db) (configuration_of l.image) tile.x tile.y) (take l.tile-index l.tiles)

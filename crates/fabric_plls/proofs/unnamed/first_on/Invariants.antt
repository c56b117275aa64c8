use Rattle.std.proofs.Common.{◌≡◌, [], take}
use Rattle.std.specs.List.{flat_map}
use Rattle.ice_image.specs.Either.{configuration_of}
use Rattle.chipdb_reader.specs.Kept.{database_in}
use Rattle.chipdb_reader.specs.declared.items.TileXy8.{TileXy8}
use Rattle.fabric_model.specs.Plls.{has_pll}
use Rattle.fabric_plls.specs.Plls.{tile_with}
use Rattle.fabric_plls.proofs.unnamed.first_on.Given as goal

abbrev pub invariant-loop-tile : goal.invariant-loop-tile
invariant-loop-tile l = flat_map (λ (tile : TileXy8). tile_with (has_pll (database_in l.db) (configuration_of l.image)) tile.x tile.y) (take l.tile-index l.tiles) ≡ []

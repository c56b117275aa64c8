-- The upper tile of a RAM.
use Rattle.std.proofs.Common.{ℕ, List, arith}
use Rattle.std.specs.Prelude.{All}
use Rattle.plane_map.specs.declared.tile.TileKind.TheVariants.{RamB}
use Rattle.plane_map.proofs.Grids.{grid_height-le, kind_of-inside}
use Rattle.plane_map.proofs.Words.{upper-tile}
use Rattle.ice_image.specs.declared.any.AnyImage.{AnyImage}
use Rattle.ice_image.specs.Either.{device_of}
use Rattle.chipdb_reader.specs.declared.items.TileXy8.{TileXy8}
use Rattle.fabric_model.specs.TilesOfKind.{HasTile}
use Rattle.fabric_parts.specs.Rams.{HasRam}

-- a lower tile of an image is that of a RAM
pub has_ram : (image : AnyImage) (x y : ℕ) → HasTile image RamB x y → HasRam image x y
has_ram image x y lower =
    let inside = kind_of-inside (device_of image) x y RamB lower in
    record {
      lower = lower;
      upper = upper-tile (device_of image) x y lower;
      room = omega (arith, inside.1, grid_height-le (device_of image));
    }

pub have_rams : (image : AnyImage) (tiles : List TileXy8) → All (λ (tile : TileXy8). HasTile image RamB tile.x tile.y) tiles
    → All (λ (tile : TileXy8). HasRam image tile.x tile.y) tiles
have_rams image tiles each = λ k d inside. has_ram image _ _ (each k d inside)

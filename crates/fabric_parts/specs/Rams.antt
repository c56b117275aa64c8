-- A RAM by its two tiles.
use Rattle.std.specs.Prelude.{ℕ, ◌+◌, ◌<◌}
use Rattle.plane_map.specs.declared.tile.TileKind.TheVariants.{RamB, RamT}
use Rattle.ice_image.specs.declared.any.AnyImage.{AnyImage}
use Rattle.fabric_model.specs.TilesOfKind.{HasTile}

-- an image has a RAM at (x, y): a lower tile there, and an upper tile above it
pub record HasRam (image : AnyImage) (x y : ℕ) : Type 0 where
  pub lower : HasTile image RamB x y
  pub upper : HasTile image RamT x (y + 1)
  pub room : y < 255

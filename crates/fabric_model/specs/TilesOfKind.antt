-- Tiles of a kind, as a list.
use Rattle.std.specs.Prelude.{◌≡◌, ℕ, Bool, ◌&&◌, List, [], ◌∷◌, Some}
use Rattle.plane_map.specs.Layout.{kind_of}
use Rattle.plane_map.specs.declared.device.DeviceName.{DeviceName}
use Rattle.plane_map.specs.declared.tile.TileKind.{TileKind}
use Rattle.ice_image.specs.declared.any.AnyImage.{AnyImage}
use Rattle.ice_image.specs.Either.{device_of}
use Rattle.ice_image.specs.Configuration.{Configuration}
use Rattle.chipdb_lines.specs.Items.{FunctionLine}
use Rattle.fabric_model.specs.On.{begins_with, are_set}
use Rattle.chipdb_reader.specs.declared.items.TileXy8.{TileXy8}
use Rattle.fabric_model.specs.Tiles.{over_tiles, at_kind}

-- the tile at a place of the grid if it is of that kind
abbrev pub tile_if : DeviceName → TileKind → ℕ → ℕ → List TileXy8
tile_if device kind x y = at_kind device kind (λ x y. record { x = x; y = y } ∷ []) x y

-- the tiles of a kind, in the order of tiles
unfoldable pub tiles_of : DeviceName → TileKind → List TileXy8
tiles_of device kind = over_tiles device kind (λ x y. record { x = x; y = y } ∷ [])

-- an image has a tile of that kind at (x, y)
abbrev pub HasTile : AnyImage → TileKind → ℕ → ℕ → Type 0
HasTile image kind x y = kind_of (device_of image) x y ≡ Some kind

-- whether a function is of a kind, has a name that starts with `beginning`, and is on at (x, y)
abbrev pub begins_and_is_on : Configuration → TileKind → ℕ → ℕ → List ℕ → FunctionLine → Bool
begins_and_is_on image kind x y beginning function = begins_with kind beginning function && are_set image x y function.bits

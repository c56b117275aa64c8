-- The pins of all io tiles, ports or not.
use Rattle.std.specs.Prelude.{◌≡◌, ℕ, ◌+◌, ◌*◌, Bool, false, List, [], ◌∷◌, map}
use Rattle.plane_map.specs.declared.tile.TileKind.TheVariants.{Io}
use Rattle.ice_image.specs.Configuration.{Configuration}
use Rattle.ice_image.specs.declared.any.AnyImage.{AnyImage}
use Rattle.ice_image.specs.Either.{configuration_of}
use Rattle.chipdb_reader.specs.Database.{Database}
use Rattle.chipdb_reader.specs.Kept.{Kept, database_in}
use Rattle.chipdb_reader.specs.declared.items.TileXy8.{TileXy8}
use Rattle.fabric_model.specs.declared.pin.Pin.{Pin}
use Rattle.fabric_model.specs.Numbered.{numbered}
use Rattle.fabric_model.specs.Pins.{PinPlace, pin_places, pin_with, is_input_read, is_second_read, is_global_pad}
use Rattle.fabric_model.specs.TilesOfKind.{HasTile}

-- a pin, by its number and place
abbrev pub pin_at : Bool → Database → Configuration → ℕ × PinPlace → Pin
pin_at all db image place = pin_with all db image place.0 place.1.x place.1.y place.1.n

-- the pins of all io tiles, by tile and number
unfoldable pub pin_records : Bool → Database → Configuration → List Pin
pin_records all db image = map (pin_at all db image) (numbered (pin_places image.layout.device))

-- the two pins of a tile, by its index among the io tiles
abbrev pub tile_pins : Bool → Database → Configuration → ℕ × TileXy8 → List Pin
tile_pins all db image tile =
    pin_with all db image (2 * tile.0) tile.1.x tile.1.y 0 ∷ pin_with all db image (2 * tile.0 + 1) tile.1.x tile.1.y 1 ∷ []

-- A pin stands in an io tile of the image. If not pins of every kind are taken, what it says of its nets and its pad is what the database and
-- the image do.
pub record IsFoundPin (all : Bool) (db : Kept) (image : AnyImage) (pin : Pin) : Type 0 where
  pub tile : HasTile image Io pin.x pin.y
  pub reads_0 : all ≡ false → pin.reads_0 ≡ is_input_read (database_in db) (configuration_of image) pin.x pin.y pin.n
  pub reads_1 : all ≡ false → pin.reads_1 ≡ is_second_read (database_in db) (configuration_of image) pin.x pin.y pin.n
  pub is_global : all ≡ false → pin.is_global ≡ is_global_pad (database_in db) (configuration_of image) pin.x pin.y pin.n

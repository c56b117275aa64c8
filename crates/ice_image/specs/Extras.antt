-- The set bits of a device's configuration planes that belong to no tile.
use Rattle.std.specs.Prelude.{◌≡◌, ◌<◌, ◌⊎◌, ◌↔◌, true, List, Contains, AllPairs}
use Rattle.bit_plane.specs.Rows.{Rows}
use Rattle.plane_map.specs.Layout.{Layout, IsInCram, IsExtraBit}
use Rattle.plane_map.specs.declared.tile.Place.{Place}
use Rattle.ice_image.specs.Configuration.{place_bit}

-- by bank, then by row, then by column
abbrev pub IsBefore : Place → Place → Type 0
IsBefore a b =
    (a.bank < b.bank) ⊎ ((a.bank ≡ b.bank) × ((a.py < b.py) ⊎ ((a.py ≡ b.py) × (a.px < b.px))))

-- a place of the planes whose bit is set and belongs to no tile
pub record IsSetExtra (layout : Layout) (cram : List Rows) (at : Place) : Type 0 where
  pub inside : IsInCram layout.device at
  pub is_set : place_bit cram at ≡ true
  pub extra : IsExtraBit layout at

-- all set extra bits, each once, in order
pub record AreSetExtras (layout : Layout) (cram : List Rows) (places : List Place) : Type 0 where
  pub ordered : AllPairs IsBefore places
  pub exact : (at : Place) → Contains places at ↔ IsSetExtra layout cram at

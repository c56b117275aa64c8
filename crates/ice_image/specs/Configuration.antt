-- An image as data. The four banks with their configuration and RAM planes are those of Project IceStorm, 'Bitstream File Format
-- Documentation'.
use Rattle.std.specs.Prelude.{◌≡◌, ℕ, ◌<◌, Bool, true, false, List, [], length, get_or, set, replicate, Option, None}
use Rattle.bit_plane.specs.Rows.{Rows, IsGrid, bit_at, with_bit, blank}
use Rattle.plane_map.specs.Layout.{Layout, IsLayout, cram_width, cram_height, bram_width, bram_height}
use Rattle.plane_map.specs.declared.device.DeviceName.{DeviceName}
use Rattle.plane_map.specs.declared.tile.Place.{Place}
use Rattle.ice_image.specs.declared.settings.Settings.{Settings}
use Rattle.ice_image.specs.declared.settings.Range.TheVariants.{Low}

-- A device's configuration: the device's layout, the lines of a comment if there is one, the settings, and the configuration
-- planes and RAM planes of banks 0 to 3.
pub record Configuration : Type 0 where
  pub layout : Layout
  pub comment : Option (List (List ℕ))
  pub settings : Settings
  pub cram : List Rows
  pub bram : List Rows

-- ---- bits by their places

-- the plane of a bank
abbrev pub bank_rows : List Rows → ℕ → Rows
bank_rows planes bank = get_or planes bank []

-- the bit at a place
abbrev pub place_bit : List Rows → Place → Bool
place_bit planes at = bit_at (bank_rows planes at.bank) at.px at.py

-- the planes with another plane of a bank
abbrev pub with_bank : List Rows → ℕ → Rows → List Rows
with_bank planes bank rows = set planes bank rows

-- the planes with another bit at a place, and no other change
abbrev pub with_place_bit : List Rows → Place → Bool → List Rows
with_place_bit planes at bit = with_bank planes at.bank (with_bit (bank_rows planes at.bank) at.px at.py bit)

-- only bits at places of that kind may have changed
abbrev pub SameBut : (Place → Type 0) → List Rows → List Rows → Type 0
SameBut IsChanged before after = (at : Place) → ¬ IsChanged at → place_bit after at ≡ place_bit before at

-- ---- the sizes

-- four planes of that size
pub record AreBanks (width height : ℕ) (planes : List Rows) : Type 0 where
  pub four : length planes ≡ 4
  pub grids : (bank : ℕ) → bank < 4 → IsGrid width height (bank_rows planes bank)

-- the layout puts no two bits at one place, and the planes have the device's sizes
pub record IsWhole (image : Configuration) : Type 0 where
  pub layout : IsLayout image.layout
  pub cram : AreBanks (cram_width image.layout.device) (cram_height image.layout.device) image.cram
  pub bram : AreBanks (bram_width image.layout.device) (bram_height image.layout.device) image.bram

-- the size of the configuration planes of a device
pub record IsCramSize (device : DeviceName) (width height : ℕ) : Type 0 where
  pub width_is : width ≡ cram_width device
  pub height_is : height ≡ cram_height device

-- the size of its RAM planes
pub record IsBramSize (device : DeviceName) (width height : ℕ) : Type 0 where
  pub width_is : width ≡ bram_width device
  pub height_is : height ≡ bram_height device

-- an image for the device of that name, in planes of those sizes
pub record IsImageOf (name : DeviceName) (cram_columns cram_rows bram_columns bram_rows : ℕ) (image : Configuration) : Type 0 where
  pub name_is : image.layout.device ≡ name
  pub cram_size : IsCramSize image.layout.device cram_columns cram_rows
  pub bram_size : IsBramSize image.layout.device bram_columns bram_rows
  pub layout : IsLayout image.layout
  pub cram : AreBanks cram_columns cram_rows image.cram
  pub bram : AreBanks bram_columns bram_rows image.bram

-- ---- the blank image

-- the settings that hold if nothing sets them
abbrev pub usual_settings : Settings
usual_settings = record { range = Low; warm_boot = true; no_sleep = false }

-- no comment, the usual settings, and all bits 0
abbrev pub blank_image : Layout → Configuration
blank_image layout = record {
  layout = layout;
  comment = None;
  settings = usual_settings;
  cram = replicate 4 (blank (cram_width layout.device) (cram_height layout.device));
  bram = replicate 4 (blank (bram_width layout.device) (bram_height layout.device));
}

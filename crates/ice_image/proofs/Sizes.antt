-- Images in planes of their device's sizes.
use Rattle.std.proofs.Common.{ℕ, List, sym}
use Rattle.bit_plane.specs.Rows.{Rows}
use Rattle.plane_map.specs.declared.device.DeviceName.{DeviceName}
use Rattle.ice_image.specs.Configuration.{Configuration, AreBanks, IsWhole, IsImageOf}

module _ (name : DeviceName) (cram_columns cram_rows bram_columns bram_rows : ℕ) (image : Configuration) (is : IsImageOf name cram_columns cram_rows bram_columns bram_rows image) where
  -- with other configuration planes of their size
  pub image_of-cram : (cram : List Rows) → AreBanks cram_columns cram_rows cram → IsImageOf name cram_columns cram_rows bram_columns bram_rows (record image { cram = cram })
  image_of-cram cram banks = record { name_is = is.name_is; cram_size = is.cram_size; bram_size = is.bram_size; layout = is.layout; cram = banks; bram = is.bram }

  -- with other RAM planes of their size
  pub image_of-bram : (bram : List Rows) → AreBanks bram_columns bram_rows bram → IsImageOf name cram_columns cram_rows bram_columns bram_rows (record image { bram = bram })
  image_of-bram bram banks = record { name_is = is.name_is; cram_size = is.cram_size; bram_size = is.bram_size; layout = is.layout; cram = is.cram; bram = banks }

  -- it is whole
  pub image_of-whole : IsWhole image
  image_of-whole = record {
    layout = is.layout;
    cram = rw (sym is.cram_size.width_is, sym is.cram_size.height_is) is.cram;
    bram = rw (sym is.bram_size.width_is, sym is.bram_size.height_is) is.bram;
  }

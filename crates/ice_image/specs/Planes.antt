-- The planes of an image, bank by bank, as rows of bits.
use Rattle.std.specs.Prelude.{ℕ}
use Rattle.bit_plane.specs.BitList.{placed}
use Rattle.bit_plane.specs.Rows.{Rows}
use Rattle.plane_map.specs.Layout.{cram_width, cram_height, bram_width, bram_height}
use Rattle.plane_map.specs.declared.device.DeviceName.{DeviceName}
use Rattle.ice_image.specs.Configuration.{Configuration, bank_rows, with_bank}
use Rattle.ice_image.specs.declared.planes.PlaneKind.{PlaneKind}
use Rattle.ice_image.specs.declared.planes.PlaneKind.TheVariants.{Cram, Bram}

-- how many columns and rows of bits a device's planes of a kind have
abbrev pub plane_width : PlaneKind → DeviceName → ℕ
plane_width Cram device = cram_width device
plane_width Bram device = bram_width device

abbrev pub plane_height : PlaneKind → DeviceName → ℕ
plane_height Cram device = cram_height device
plane_height Bram device = bram_height device

-- the rows of a bank's plane
abbrev pub rows_of_bank : PlaneKind → ℕ → Configuration → Rows
rows_of_bank Cram bank image = bank_rows image.cram bank
rows_of_bank Bram bank image = bank_rows image.bram bank

-- an image with other rows in a bank's plane, from one row on
abbrev pub with_rows : PlaneKind → ℕ → ℕ → Rows → Configuration → Configuration
with_rows Cram bank first rows image = record image { cram = with_bank image.cram bank (placed first rows (bank_rows image.cram bank)) }
with_rows Bram bank first rows image = record image { bram = with_bank image.bram bank (placed first rows (bank_rows image.bram bank)) }

-- Tiles by their kinds: how wide they are, and where they are.
use Rattle.std.proofs.Common.{◌≡◌, ℕ, ◌<◌, ◌≤◌, List, Some, ap, sym, subst, arith}
use Rattle.std.specs.Prelude.{All}
use Rattle.plane_map.specs.Layout.{kind_of, columns_of, columns_in, grid_width, grid_height, standard_layout, IsTileBit}
use Rattle.plane_map.specs.declared.device.DeviceName.{DeviceName}
use Rattle.plane_map.specs.declared.device.DeviceName.TheVariants.{Lp384, Hx1k, Hx8k}
use Rattle.plane_map.specs.declared.tile.RowCol.{RowCol}
use Rattle.plane_map.specs.declared.tile.TileBit.{TileBit}
use Rattle.plane_map.specs.declared.tile.TileKind.{TileKind}
use Rattle.plane_map.specs.declared.tile.TileKind.TheVariants.{Io, Logic, RamB, RamT}
use Rattle.plane_map.proofs.Grids.{columns_of-some}
use Rattle.plane_map.proofs.Places.{tile_bit_x_in, tile_bit_y_in}
use Rattle.plane_map.proofs.Standard.{standard_is_layout}
use Rattle.chipdb_reader.specs.Fit.{IsBitIn}

-- no kind has more than 54 columns of bits
pub narrow : (kind : TileKind) → columns_of kind ≤ 54
narrow Io = omega arith
narrow Logic = omega arith
narrow RamB = omega arith
narrow RamT = omega arith

-- bits of a tile are bits of a board of 54 columns
pub on-board : (kind : TileKind) (bits : List RowCol) → All (IsBitIn (columns_of kind)) bits → All (IsBitIn 54) bits
on-board kind bits inside = λ k d lt. record {
  row_in = (inside k d lt).row_in;
  col_in = let here = (inside k d lt).col_in in omega (arith, here, narrow kind);
}

least : (device : DeviceName) (n : ℕ) → n < grid_width device → n < 64
least Lp384 n lt = omega arith
least Hx1k n lt = omega arith
least Hx8k n lt = omega arith

least_y : (device : DeviceName) (n : ℕ) → n < grid_height device → n < 64
least_y Lp384 n lt = omega arith
least_y Hx1k n lt = omega arith
least_y Hx8k n lt = omega arith

module _ (device : DeviceName) (x y : ℕ) (kind : TileKind) (there : kind_of device x y ≡ Some kind) where
  corner : TileBit
  corner = record { x = x; y = y; row = 0; col = 0 }

  is-corner : IsTileBit device (record { x = x; y = y; row = 0; col = 0 })
  is-corner = record { row_in = omega arith; col_in = subst (λ n. 0 < n) (sym (ap columns_in there)) (columns_of-some kind) }

  -- a tile is in the grid, which is less than 64 wide and high
  pub x-below : x < 64
  x-below = least device x (tile_bit_x_in (standard_layout device) (standard_is_layout device) (record { x = x; y = y; row = 0; col = 0 }) is-corner)

  pub y-below : y < 64
  y-below = least_y device y (tile_bit_y_in (standard_layout device) (standard_is_layout device) (record { x = x; y = y; row = 0; col = 0 }) is-corner)

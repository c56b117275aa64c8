-- How large a grid of tiles is, which places are in it, and how many columns of bits a tile has.
use Rattle.std.proofs.Common.{◌≡◌, ℕ, ◌<◌, ◌≤◌, Option, Some, None, lit≤, arith}
use Rattle.std.proofs.lemmas.Bool.Decides.{nat_tests}
use Rattle.plane_map.specs.declared.device.DeviceName.{DeviceName}
use Rattle.plane_map.specs.declared.device.DeviceName.TheVariants.{Lp384, Hx1k, Hx8k}
use Rattle.plane_map.specs.declared.tile.TileKind.{TileKind}
use Rattle.plane_map.specs.declared.tile.TileKind.TheVariants.{Io, Logic, RamB, RamT}
use Rattle.plane_map.specs.Layout.{grid_width, grid_height, kind_of, columns_of, columns_in}

-- no grid is larger than that of the larger device
pub grid_width-le : (device : DeviceName) → grid_width device ≤ 34
grid_width-le Lp384 = lit≤ tt
grid_width-le Hx1k = lit≤ tt
grid_width-le Hx8k = lit≤ tt

pub grid_height-le : (device : DeviceName) → grid_height device ≤ 34
grid_height-le Lp384 = lit≤ tt
grid_height-le Hx1k = lit≤ tt
grid_height-le Hx8k = lit≤ tt

-- a tile that is there is in the grid
pub kind_of-inside : (device : DeviceName) (x y : ℕ) (kind : TileKind) → kind_of device x y ≡ Some kind → (x < grid_width device) × (y < grid_height device)
unfolding kind_of
kind_of-inside device x y kind is = grind (arith, nat_tests)

-- each kind of tile has columns
pub columns_of-some : (kind : TileKind) → 0 < columns_of kind
columns_of-some Io = omega arith
columns_of-some Logic = omega arith
columns_of-some RamB = omega arith
columns_of-some RamT = omega arith

-- no tile has more columns than a word has bits
pub columns_in-le : (kind : Option TileKind) → columns_in kind ≤ 54
columns_in-le None = omega arith
columns_in-le (Some Io) = omega arith
columns_in-le (Some Logic) = omega arith
columns_in-le (Some RamB) = omega arith
columns_in-le (Some RamT) = omega arith

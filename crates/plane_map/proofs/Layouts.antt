-- What the tests of a layout say, and what the grids of the devices have.
use Rattle.std.proofs.Common.{◌≡◌, ℕ, zero, suc, ◌+◌, ◌<◌, ◌≤◌, true, List, slice_index, arith, lit≤}
use Rattle.std.proofs.lemmas.Bool.Decides.{nat_tests}
use Rattle.plane_map.specs.declared.device.DeviceName.{DeviceName}
use Rattle.plane_map.specs.declared.device.DeviceName.TheVariants.{Lp384, Hx1k, Hx8k}
use Rattle.plane_map.specs.Layout.{kind_of, columns_at, half_width, least_width, are_wide, Layout, IsLayout, width_of, start_of, is_side, is_end, is_right, is_top, from_side, from_end, last_x, last_y, grid_width, grid_height, cram_width}
use Rattle.plane_map.proofs.Starts.{starts-in}
use Rattle.plane_map.proofs.Widths.{AreStarts, start-later}
use Rattle.plane_map.proofs.Offsets.{ArePlaces, AreColumns, places-from, FitsColumn, mirror-same}

-- each column of tiles starts where the one before it ends
pub are_starts : (layout : Layout) → AreStarts (start_of layout) (width_of layout)
are_starts layout = starts-in layout.widths

-- each of the columns of tiles that the test looks at is as wide as it needs to be
are_wide-at : (device : DeviceName) (widths : List ℕ) (n : ℕ) → are_wide device widths n ≡ true → (u : ℕ) → u < n → least_width device u ≤ slice_index widths u
are_wide-at device widths zero w u h = absurd (omega arith)
are_wide-at device widths (suc n) w u h = grind (arith, nat_tests, are_wide-at device widths n)

-- each column of tiles of a half is as wide as it needs to be
pub width_of-least : (layout : Layout) → IsLayout layout → (u : ℕ) → u < half_width layout.device → least_width layout.device u ≤ width_of layout u
width_of-least layout s u h =
    let wide : are_wide layout.device layout.widths (half_width layout.device) ≡ true = grind (arith, nat_tests, s.widths) in
    are_wide-at layout.device layout.widths (half_width layout.device) wide u h

-- the columns of tiles of a half fit into a plane
pub start_of-half : (layout : Layout) → IsLayout layout → start_of layout (half_width layout.device) ≤ cram_width layout.device
start_of-half layout s = grind (arith, nat_tests, s.widths)

-- so does each of them
pub width_of-fits : (layout : Layout) → IsLayout layout → (u : ℕ) → u < half_width layout.device → start_of layout u + width_of layout u ≤ cram_width layout.device
width_of-fits layout s u h =
    omega (arith, start-later (start_of layout) (width_of layout) (are_starts layout) u (half_width layout.device) h, start_of-half layout s)

-- no half has more columns of tiles than there is room for
pub half_width-le : (device : DeviceName) → half_width device ≤ 17
half_width-le Lp384 = lit≤ tt
half_width-le Hx1k = lit≤ tt
half_width-le Hx8k = lit≤ tt

-- a plane is small
pub cram_width-below : (device : DeviceName) → cram_width device ≤ 872
cram_width-below Lp384 = lit≤ tt
cram_width-below Hx1k = lit≤ tt
cram_width-below Hx8k = lit≤ tt

-- the columns of bits of io tiles
pub are_columns : (layout : Layout) → IsLayout layout → AreColumns layout.side_columns layout.pad_columns
are_columns layout s = record { side_places = places-from layout.side_columns 18 18 s.side_columns; pad_places = places-from layout.pad_columns 18 42 s.pad_columns }

-- their rows of bits
pub are_pad_rows : (layout : Layout) → IsLayout layout → ArePlaces layout.pad_rows 16 16
are_pad_rows layout s = places-from layout.pad_rows 16 16 s.pad_rows

-- the banks
pub are_banks : (layout : Layout) → IsLayout layout → ArePlaces layout.banks 4 4
are_banks layout s = places-from layout.banks 4 4 s.banks

-- a tile that has a column is in the grid
pub columns_at-in : (device : DeviceName) (x y col : ℕ) → col < columns_at device x y → (x < grid_width device) × (y < grid_height device)
unfolding kind_of
columns_at-in device x y col h = grind (arith, nat_tests)

-- a tile has the columns of an io tile in an edge, and elsewhere those of its column of tiles
pub columns_at-fit : (device : DeviceName) (x y col : ℕ) → col < columns_at device x y
    → FitsColumn (is_side device x) (is_end device y) (least_width device (from_side device x)) col
unfolding kind_of
columns_at-fit Lp384 x y col h = grind (arith, nat_tests)
columns_at-fit Hx1k x y col h = grind (arith, nat_tests)
columns_at-fit Hx8k x y col h = grind (arith, nat_tests)

-- the grid has an even number of columns, so that no column of tiles is farther from the nearer edge than a half is wide
pub from_side-below : (device : DeviceName) (x : ℕ) → x < grid_width device → from_side device x < half_width device
from_side-below Lp384 x h = grind (arith, nat_tests)
from_side-below Hx1k x h = grind (arith, nat_tests)
from_side-below Hx8k x h = grind (arith, nat_tests)

-- a column of tiles by its half and by how far it is from the side edge
pub from_side-same : (device : DeviceName) (x y : ℕ) → x < grid_width device → y < grid_width device → is_right device x ≡ is_right device y
    → from_side device x ≡ from_side device y → x ≡ y
from_side-same device x y hx hy r e = mirror-same (last_x device) x y (omega arith) (omega arith) r e

-- a row of tiles by its half and by how far it is from the end edge
pub from_end-same : (device : DeviceName) (x y : ℕ) → x < grid_height device → y < grid_height device → is_top device x ≡ is_top device y
    → from_end device x ≡ from_end device y → x ≡ y
from_end-same device x y hx hy r e = mirror-same (last_y device) x y (omega arith) (omega arith) r e

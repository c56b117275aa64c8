-- Each bit of a tile lies in the planes, and no two at one place.
use Rattle.std.proofs.Common.{◌≡◌, ℕ, ◌+◌, ◌*◌, ◌<◌, ◌≤◌, Bool, true, ◌&&◌, sym, ◌∙◌, ap, subst, arith}
use Rattle.std.proofs.lemmas.Bool.Decides.{nat_tests}
use Rattle.plane_map.specs.declared.device.DeviceName.{DeviceName}
use Rattle.plane_map.specs.declared.device.DeviceName.TheVariants.{Lp384, Hx1k, Hx8k}
use Rattle.plane_map.specs.declared.tile.TileBit.{TileBit}
use Rattle.plane_map.specs.declared.tile.Place.{Place}
use Rattle.plane_map.specs.Layout.{Layout, IsLayout, half_width, width_of, start_of, is_side, is_end, is_right, is_top, is_mirrored, from_side, from_end, quarter_of, bank_of, column_of, px_of, py_of, place_of, grid_width, grid_height, cram_height, IsTileBit, IsInCram}
use Rattle.plane_map.proofs.Widths.{start-later, same_column}
use Rattle.plane_map.proofs.Offsets.{entry-same, entry-below, column, column-below, column-same, FitsColumn, fits-wider, fits-side, fits-end, turned, turned-below, turned-same, turned-is, height, height-below, height-same, height-is, same_row, quarter-below, quarter-same}
use Rattle.plane_map.proofs.Layouts.{start_of-half, are_starts, are_columns, are_pad_rows, are_banks, width_of-least, columns_at-in, columns_at-fit, from_side-below, from_side-same, from_end-same}

-- a bit of a tile is in the grid and in its column and its row of tiles
pub record IsPlaced (layout : Layout) (bit : TileBit) : Type 0 where
  pub x_in : bit.x < grid_width layout.device
  pub y_in : bit.y < grid_height layout.device
  pub row_in : bit.row < 16
  pub fits : FitsColumn (is_side layout.device bit.x) (is_end layout.device bit.y) (width_of layout (from_side layout.device bit.x)) bit.col

-- and has a place there
pub tile_bit_is_placed : (layout : Layout) → IsLayout layout → (bit : TileBit) → IsTileBit layout.device bit → IsPlaced layout bit
tile_bit_is_placed layout s bit h =
    let u = from_side layout.device bit.x in
    let in_grid = columns_at-in layout.device bit.x bit.y bit.col h.col_in in
    let wide = width_of-least layout s u (from_side-below layout.device bit.x in_grid.0) in
    let fits = fits-wider (is_side layout.device bit.x) (is_end layout.device bit.y) _ (width_of layout u) bit.col wide (columns_at-fit layout.device bit.x bit.y bit.col h.col_in) in
    record { x_in = in_grid.0; y_in = in_grid.1; row_in = h.row_in; fits = fits }

-- how far a bit of a tile is from the start of its column of tiles
abbrev pub offset_of : Layout → TileBit → ℕ
offset_of layout bit = turned (is_mirrored layout bit.x bit.y) (width_of layout (from_side layout.device bit.x)) (column_of layout bit)

-- how far it is from the start of its row of tiles
abbrev pub height_of : Layout → TileBit → ℕ
height_of layout bit = height layout.pad_rows (is_end layout.device bit.y) (is_top layout.device bit.y && layout.flip) bit.row

-- a bit of a tile lies within its column of tiles
pub column_of-below : (layout : Layout) → IsLayout layout → (bit : TileBit) → IsPlaced layout bit → column_of layout bit < width_of layout (from_side layout.device bit.x)
column_of-below layout s bit h =
    column-below layout.side_columns layout.pad_columns (are_columns layout s) (is_side layout.device bit.x) (is_end layout.device bit.y) _ bit.col h.fits

-- from either side
pub offset_of-below : (layout : Layout) → IsLayout layout → (bit : TileBit) → IsPlaced layout bit → offset_of layout bit < width_of layout (from_side layout.device bit.x)
offset_of-below layout s bit h = turned-below (is_mirrored layout bit.x bit.y) _ (column_of layout bit) (column_of-below layout s bit h)

-- and within its row of tiles
pub height_of-below : (layout : Layout) (bit : TileBit) → IsPlaced layout bit → height_of layout bit < 16
height_of-below layout bit h = height-below layout.pad_rows (is_end layout.device bit.y) (is_top layout.device bit.y && layout.flip) bit.row h.row_in

-- a bit's column of bits by the start of its column of tiles
pub px_of-is : (layout : Layout) → IsLayout layout → (bit : TileBit) → IsPlaced layout bit → px_of layout bit ≡ start_of layout (from_side layout.device bit.x) + offset_of layout bit
px_of-is layout s bit h =
    turned-is (is_mirrored layout bit.x bit.y) (start_of layout (from_side layout.device bit.x)) (width_of layout (from_side layout.device bit.x))
    (column_of layout bit) (column_of-below layout s bit h)

-- its row of bits by the start of its row of tiles
pub py_of-is : (layout : Layout) → IsLayout layout → (bit : TileBit) → IsPlaced layout bit → py_of layout bit ≡ 16 * from_end layout.device bit.y + height_of layout bit
py_of-is layout s bit h =
    height-is layout.pad_rows (are_pad_rows layout s) (is_end layout.device bit.y) (is_top layout.device bit.y && layout.flip) (16 * from_end layout.device bit.y) bit.row h.row_in

-- a bank determines the halves
pub bank-halves : (layout : Layout) → IsLayout layout → (x y x' y' : ℕ) → bank_of layout x y ≡ bank_of layout x' y'
    → (is_top layout.device y ≡ is_top layout.device y') × (is_right layout.device x ≡ is_right layout.device x')
bank-halves layout s x y x' y' e =
    let top = is_top layout.device in
    let right = is_right layout.device in
    let same : quarter_of layout.device x y ≡ quarter_of layout.device x' y' =
    entry-same layout.banks 4 4 (are_banks layout s) _ _ (quarter-below (top y) (right x)) (quarter-below (top y') (right x')) e
    in
    quarter-same (top y) (right x) (top y') (right x') same

-- bits of one tile in one row of bits are in one row
row-same : (layout : Layout) → IsLayout layout → (a b : TileBit) → a.y ≡ b.y → IsPlaced layout a → IsPlaced layout b → height_of layout a ≡ height_of layout b → a.row ≡ b.row
row-same layout s a b y ha hb e =
    let P : ℕ → Type 0 =
    λ at. height layout.pad_rows (is_end layout.device at) (is_top layout.device at && layout.flip) a.row ≡ height_of layout b → a.row ≡ b.row
    in
    subst P (sym y) (height-same layout.pad_rows (are_pad_rows layout s) (is_end layout.device b.y) (is_top layout.device b.y && layout.flip) a.row b.row ha.row_in hb.row_in) e

-- bits of one tile in one column of bits, counted from either side, are in one column
col-same : (layout : Layout) → IsLayout layout → (a b : TileBit) → a.x ≡ b.x → a.y ≡ b.y → IsPlaced layout a → IsPlaced layout b
    → column_of layout a ≡ column_of layout b → a.col ≡ b.col
col-same layout s a b x y ha hb e =
    let P : ℕ → ℕ → Type 0 =
    λ p q. FitsColumn (is_side layout.device p) (is_end layout.device q) (width_of layout (from_side layout.device p)) a.col
    → column layout.side_columns layout.pad_columns (is_side layout.device p) (is_end layout.device q) a.col ≡ column_of layout b → a.col ≡ b.col
    in
    let same : P b.x b.y =
    λ fits. column-same layout.side_columns layout.pad_columns (are_columns layout s) (is_side layout.device b.x) (is_end layout.device b.y)
    (width_of layout (from_side layout.device b.x)) a.col b.col fits hb.fits
    in
    subst (λ p. P p a.y) (sym x) (subst (λ q. P b.x q) (sym y) same) ha.fits e

-- so are bits that are as far from the start
column_of-same : (layout : Layout) → IsLayout layout → (a b : TileBit) → a.x ≡ b.x → a.y ≡ b.y → IsPlaced layout a → IsPlaced layout b
    → offset_of layout a ≡ offset_of layout b → column_of layout a ≡ column_of layout b
column_of-same layout s a b x y ha hb e =
    let P : ℕ → ℕ → Type 0 =
    λ p q. column_of layout a < width_of layout (from_side layout.device p)
    → turned (is_mirrored layout p q) (width_of layout (from_side layout.device p)) (column_of layout a) ≡ offset_of layout b → column_of layout a ≡ column_of layout b
    in
    let same : P b.x b.y =
    λ below. turned-same (is_mirrored layout b.x b.y) (width_of layout (from_side layout.device b.x)) (column_of layout a) (column_of layout b)
    below (column_of-below layout s b hb)
    in
    subst (λ p. P p a.y) (sym x) (subst (λ q. P b.x q) (sym y) same) (column_of-below layout s a ha) e

-- bits of tiles with one place are one bit
pub place_of-same : (layout : Layout) → IsLayout layout → (a b : TileBit) → IsPlaced layout a → IsPlaced layout b → bank_of layout a.x a.y ≡ bank_of layout b.x b.y
    → px_of layout a ≡ px_of layout b → py_of layout a ≡ py_of layout b → a ≡ b
place_of-same layout s a b ha hb bank px py =
    let device = layout.device in
    let halves = bank-halves layout s a.x a.y b.x b.y bank in
    let columns =
    same_column (start_of layout) (width_of layout) (are_starts layout) (from_side device a.x) (from_side device b.x) (offset_of layout a) (offset_of layout b)
    (offset_of-below layout s a ha) (offset_of-below layout s b hb) (sym (px_of-is layout s a ha) ∙ px ∙ px_of-is layout s b hb)
    in
    let rows =
    same_row (from_end device a.y) (from_end device b.y) (height_of layout a) (height_of layout b)
    (height_of-below layout a ha) (height_of-below layout b hb) (sym (py_of-is layout s a ha) ∙ py ∙ py_of-is layout s b hb)
    in
    let x : a.x ≡ b.x = from_side-same device a.x b.x ha.x_in hb.x_in halves.1 columns.0 in
    let y : a.y ≡ b.y = from_end-same device a.y b.y ha.y_in hb.y_in halves.0 rows.0 in
    let row : a.row ≡ b.row = row-same layout s a b y ha hb rows.1 in
    let col : a.col ≡ b.col = col-same layout s a b x y ha hb (column_of-same layout s a b x y ha hb columns.1) in
    λ i. record { x = x i; y = y i; row = row i; col = col i }

-- no two bits of tiles lie at one place
pub place_is_only : (layout : Layout) → IsLayout layout → (a b : TileBit) → IsTileBit layout.device a → IsTileBit layout.device b → place_of layout b ≡ place_of layout a → b ≡ a
unfolding place_of
place_is_only layout s a b ha hb e =
    place_of-same layout s b a (tile_bit_is_placed layout s b hb) (tile_bit_is_placed layout s a ha)
    (ap (λ (p : Place). p.bank) e) (ap (λ (p : Place). p.px) e) (ap (λ (p : Place). p.py) e)

-- a bit of a tile lies before the end of the last column of tiles of its half
pub px_of-before : (layout : Layout) → IsLayout layout → (bit : TileBit) → IsPlaced layout bit → px_of layout bit < start_of layout (half_width layout.device)
px_of-before layout s bit h =
    let u = from_side layout.device bit.x in
    let before : start_of layout u + width_of layout u ≤ start_of layout (half_width layout.device) =
    start-later (start_of layout) (width_of layout) (are_starts layout) u (half_width layout.device) (from_side-below layout.device bit.x h.x_in)
    in
    omega (arith, px_of-is layout s bit h, offset_of-below layout s bit h, before)

-- its tile is in the grid's columns
pub tile_bit_x_in : (layout : Layout) → IsLayout layout → (bit : TileBit) → IsTileBit layout.device bit → bit.x < grid_width layout.device
tile_bit_x_in layout s bit h = (tile_bit_is_placed layout s bit h).x_in

-- in the grid's rows too
pub tile_bit_y_in : (layout : Layout) → IsLayout layout → (bit : TileBit) → IsTileBit layout.device bit → bit.y < grid_height layout.device
tile_bit_y_in layout s bit h = (tile_bit_is_placed layout s bit h).y_in

-- its column is one of eighteen at a side
pub tile_bit_col_side : (layout : Layout) → IsLayout layout → (bit : TileBit) → IsTileBit layout.device bit → is_side layout.device bit.x ≡ true → bit.col < 18
tile_bit_col_side layout s bit h e = fits-side _ _ _ bit.col (tile_bit_is_placed layout s bit h).fits e

-- and in an end row
pub tile_bit_col_end : (layout : Layout) → IsLayout layout → (bit : TileBit) → IsTileBit layout.device bit → is_end layout.device bit.y ≡ true → bit.col < 18
tile_bit_col_end layout s bit h e = fits-end _ _ _ bit.col (tile_bit_is_placed layout s bit h).fits e

-- its column of bits lies within its column of tiles
pub tile_bit_column : (layout : Layout) → IsLayout layout → (bit : TileBit) → IsTileBit layout.device bit → (u width column : ℕ)
    → u ≡ from_side layout.device bit.x → width ≡ width_of layout u → column ≡ column_of layout bit → column < width
tile_bit_column layout s bit h u width column u_is width_is column_is =
    omega (arith, column_of-below layout s bit (tile_bit_is_placed layout s bit h), width_is ∙ ap (width_of layout) u_is, column_is)

-- a bit's row of bits from the parts that the code computes
pub py_of-parts : (layout : Layout) → IsLayout layout → (bit : TileBit) → IsTileBit layout.device bit → (w into : ℕ)
    → w ≡ from_end layout.device bit.y → into ≡ height_of layout bit → 16 * w + into ≡ py_of layout bit
py_of-parts layout s bit h w into w_is into_is = (λ i. 16 * w_is i + into_is i) ∙ sym (py_of-is layout s bit (tile_bit_is_placed layout s bit h))

-- and its column of bits from those parts
pub px_of-parts : (layout : Layout) → IsLayout layout → (bit : TileBit) → IsTileBit layout.device bit → (u start width column into : ℕ) (mirrored : Bool)
    → u ≡ from_side layout.device bit.x → start ≡ start_of layout u → width ≡ width_of layout u → column ≡ column_of layout bit
    → mirrored ≡ is_mirrored layout bit.x bit.y → into ≡ turned mirrored width column → start + into ≡ px_of layout bit
px_of-parts layout s bit h u start width column into mirrored u_is start_is width_is column_is mirrored_is into_is =
    let start' : start ≡ start_of layout (from_side layout.device bit.x) = start_is ∙ ap (start_of layout) u_is in
    let width' : width ≡ width_of layout (from_side layout.device bit.x) = width_is ∙ ap (width_of layout) u_is in
    let into' : into ≡ offset_of layout bit = into_is ∙ (λ i. turned (mirrored_is i) (width' i) (column_is i)) in
    (λ i. start' i + into' i) ∙ sym (px_of-is layout s bit (tile_bit_is_placed layout s bit h))

-- a bank is one of four
pub bank_of-below : (layout : Layout) → IsLayout layout → (x y : ℕ) → bank_of layout x y < 4
bank_of-below layout s x y =
    entry-below layout.banks 4 4 (are_banks layout s) (quarter_of layout.device x y) (quarter-below (is_top layout.device y) (is_right layout.device x))

-- a row of tiles lies in the planes
row-below : (device : DeviceName) (y height : ℕ) → y < grid_height device → height < 16 → 16 * from_end device y + height < cram_height device
row-below Lp384 y height inside within = grind (arith, nat_tests)
row-below Hx1k y height inside within = grind (arith, nat_tests)
row-below Hx8k y height inside within = grind (arith, nat_tests)

-- a bit of a tile lies in the planes
pub place_is_in : (layout : Layout) → IsLayout layout → (bit : TileBit) → IsTileBit layout.device bit → IsInCram layout.device (place_of layout bit)
unfolding place_of
place_is_in layout s bit h =
    let placed = tile_bit_is_placed layout s bit h in
    record {
      bank_in = bank_of-below layout s bit.x bit.y;
      px_in = omega (arith, px_of-before layout s bit placed, start_of-half layout s);
      py_in = omega (arith, py_of-is layout s bit placed, row-below layout.device bit.y (height_of layout bit) placed.y_in (height_of-below layout bit placed));
    }

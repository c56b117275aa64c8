-- Which bit of a tile lies at a place of the configuration planes.
use Rattle.std.proofs.Common.{◌≡◌, ◌≢◌, ℕ, zero, suc, ◌+◌, ◌/◌, ◌%◌, ◌<◌, ◌≤◌, ◌⊎◌, inl, inr, Bool, true, false, ◌&&◌, ◌==◌, nat_le, List, slice_index, Option, Some, None, MatchOption, refl, sym, ◌∙◌, ap, subst, arith}
use Rattle.std.proofs.lemmas.Bool.Decides.{nat_tests}
use Rattle.plane_map.specs.declared.device.DeviceName.{DeviceName}
use Rattle.plane_map.specs.declared.tile.TileKind.{TileKind}
use Rattle.plane_map.specs.declared.tile.TileBit.{TileBit}
use Rattle.plane_map.specs.declared.tile.Place.{Place}
use Rattle.plane_map.specs.Layout.{Layout, IsLayout, kind_of, columns_in, columns_at, half_width, width_of, start_of, is_side, is_end, is_right, is_top, is_mirrored, from_side, from_end, quarter_of, bank_of, column_of, px_of, py_of, place_of, grid_width, grid_height, IsTileBit, IsExtraBit}
use Rattle.plane_map.proofs.Widths.{same_column}
use Rattle.plane_map.proofs.Offsets.{turned, turned-twice, height, quarter}
use Rattle.plane_map.proofs.Layouts.{are_starts, from_side-same, from_end-same}
use Rattle.plane_map.proofs.Places.{column_of-below, offset_of, offset_of-below, height_of, height_of-below, tile_bit_is_placed, px_of-is, py_of-is, px_of-before, bank-halves, place_is_only}

-- a tile with a place in its column and its row of tiles, and how far into the column of tiles the place is
pub record Holds (layout : Layout) (at : Place) (x y into : ℕ) : Type 0 where
  pub x_in : x < grid_width layout.device
  pub y_in : y < grid_height layout.device
  pub bank : bank_of layout x y ≡ at.bank
  pub column : start_of layout (from_side layout.device x) + into ≡ at.px
  pub inside : into < width_of layout (from_side layout.device x)
  pub row : from_end layout.device y ≡ at.py / 16

-- a quarter by the halves that the code computes
quarter-parts : (n : ℕ) → n < 4 → quarter (n % 2 == 1) (nat_le 2 n) ≡ n
quarter-parts zero h = refl
quarter-parts (suc zero) h = refl
quarter-parts (suc (suc zero)) h = refl
quarter-parts (suc (suc (suc zero))) h = refl
quarter-parts (suc (suc (suc (suc n)))) h = absurd (omega arith)

-- a tile of those halves is of the quarter
quarter_of-parts : (device : DeviceName) (x y n : ℕ) → n < 4 → is_right device x ≡ nat_le 2 n → is_top device y ≡ (n % 2 == 1) → quarter_of device x y ≡ n
quarter_of-parts device x y n h right top = (λ i. quarter (top i) (right i)) ∙ quarter-parts n h

-- past the last column of tiles lies no bit
pub extra-past : (layout : Layout) → IsLayout layout → (at : Place) → start_of layout (half_width layout.device) ≤ at.px → IsExtraBit layout at
unfolding place_of
extra-past layout s at past bit h e =
    let px : px_of layout bit ≡ at.px = ap (λ (p : Place). p.px) e in
    omega (arith, px, past, px_of-before layout s bit (tile_bit_is_placed layout s bit h))

-- what a bit is that lies at the place
pub record IsOwner (layout : Layout) (x y into : ℕ) (bit : TileBit) : Type 0 where
  pub x_is : bit.x ≡ x
  pub y_is : bit.y ≡ y
  pub into_is : offset_of layout bit ≡ into

-- a bit that lies at the place is one of the tile that holds it
pub owner-parts : (layout : Layout) → IsLayout layout → (at : Place) (x y into : ℕ) → Holds layout at x y into → (bit : TileBit) → IsTileBit layout.device bit
    → place_of layout bit ≡ at → IsOwner layout x y into bit
unfolding place_of
owner-parts layout s at x y into holds bit h e =
    let device = layout.device in
    let placed = tile_bit_is_placed layout s bit h in
    let bank : bank_of layout bit.x bit.y ≡ bank_of layout x y = ap (λ (p : Place). p.bank) e ∙ sym holds.bank in
    let halves = bank-halves layout s bit.x bit.y x y bank in
    let px : start_of layout (from_side device bit.x) + offset_of layout bit ≡ start_of layout (from_side device x) + into =
    sym (px_of-is layout s bit placed) ∙ ap (λ (p : Place). p.px) e ∙ sym holds.column
    in
    let columns = same_column (start_of layout) (width_of layout) (are_starts layout) (from_side device bit.x) (from_side device x) (offset_of layout bit) into
    (offset_of-below layout s bit placed) holds.inside px
    in
    let py : py_of layout bit ≡ at.py = ap (λ (p : Place). p.py) e in
    let below : height_of layout bit < 16 = height_of-below layout bit placed in
    let row : from_end device bit.y ≡ from_end device y = omega (arith, py_of-is layout s bit placed, py, below, holds.row) in
    record {
      x_is = from_side-same device bit.x x placed.x_in holds.x_in halves.1 columns.0;
      y_is = from_end-same device bit.y y placed.y_in holds.y_in halves.0 row;
      into_is = columns.1;
    }

-- a place in a corner is no tile's bit
pub extra-corner : (layout : Layout) → IsLayout layout → (at : Place) (x y into : ℕ) → Holds layout at x y into → kind_of layout.device x y ≡ None → IsExtraBit layout at
extra-corner layout s at x y into holds corner bit h e =
    let owner = owner-parts layout s at x y into holds bit h e in
    let none : columns_at layout.device bit.x bit.y ≡ 0 = (λ i. columns_at layout.device (owner.x_is i) (owner.y_is i)) ∙ ap columns_in corner in
    omega (arith, h.col_in, none)

-- the column that the code counts is that of the bit
column-found : (layout : Layout) → IsLayout layout → (x y into : ℕ) (bit : TileBit) → IsTileBit layout.device bit → IsOwner layout x y into bit
    → turned (is_mirrored layout x y) (width_of layout (from_side layout.device x)) into ≡ column_of layout (record { x = x; y = y; row = 0; col = bit.col })
column-found layout s x y into bit h owner =
    let below = column_of-below layout s bit (tile_bit_is_placed layout s bit h) in
    let twice : turned (is_mirrored layout bit.x bit.y) (width_of layout (from_side layout.device bit.x)) (offset_of layout bit) ≡ column_of layout bit =
    turned-twice (is_mirrored layout bit.x bit.y) (width_of layout (from_side layout.device bit.x)) (column_of layout bit) below
    in
    let from : turned (is_mirrored layout x y) (width_of layout (from_side layout.device x)) into
    ≡ turned (is_mirrored layout bit.x bit.y) (width_of layout (from_side layout.device bit.x)) (offset_of layout bit) =
    λ i. turned (is_mirrored layout (sym owner.x_is i) (sym owner.y_is i)) (width_of layout (from_side layout.device (sym owner.x_is i))) (sym owner.into_is i)
    in
    let to : column_of layout bit ≡ column_of layout (record { x = x; y = y; row = 0; col = bit.col }) =
    λ i. column_of layout (record { x = owner.x_is i; y = owner.y_is i; row = 0; col = bit.col })
    in
    from ∙ twice ∙ to

-- nor is a place that none of the tile's columns takes
pub extra-between : (layout : Layout) → IsLayout layout → (at : Place) (x y into column : ℕ) → Holds layout at x y into
    → column ≡ turned (is_mirrored layout x y) (width_of layout (from_side layout.device x)) into
    → ((col : ℕ) → col < columns_at layout.device x y → column_of layout (record { x = x; y = y; row = 0; col = col }) ≢ column) → IsExtraBit layout at
extra-between layout s at x y into column holds column_is between bit h e =
    let owner = owner-parts layout s at x y into holds bit h e in
    let col_in : bit.col < columns_at layout.device x y =
    subst (λ n. bit.col < n) (λ i. columns_at layout.device (owner.x_is i) (owner.y_is i)) h.col_in
    in
    between bit.col col_in (sym (column_is ∙ column-found layout s x y into bit h owner))

-- a bit of a tile that is as far into its column and row of tiles lies at the place
pub owner-place : (layout : Layout) → IsLayout layout → (at : Place) (x y into column row col : ℕ) → Holds layout at x y into
    → column ≡ turned (is_mirrored layout x y) (width_of layout (from_side layout.device x)) into
    → (row < 16) × (height layout.pad_rows (is_end layout.device y) (is_top layout.device y && layout.flip) row ≡ at.py % 16)
    → (col < columns_at layout.device x y) × (column_of layout (record { x = x; y = y; row = 0; col = col }) ≡ column)
    → IsTileBit layout.device (record { x = x; y = y; row = row; col = col }) × (place_of layout (record { x = x; y = y; row = row; col = col }) ≡ at)
unfolding place_of
owner-place layout s at x y into column row col holds column_is rows cols =
    let bit : TileBit = record { x = x; y = y; row = row; col = col } in
    let is_bit : IsTileBit layout.device bit = record { row_in = rows.0; col_in = cols.0 } in
    let placed = tile_bit_is_placed layout s bit is_bit in
    let mirrored = is_mirrored layout x y in
    let width = width_of layout (from_side layout.device x) in
    let offset : offset_of layout bit ≡ into = ap (turned mirrored width) (cols.1 ∙ column_is) ∙ turned-twice mirrored width into holds.inside in
    let px : px_of layout bit ≡ at.px = px_of-is layout s bit placed ∙ ap (λ n. start_of layout (from_side layout.device x) + n) offset ∙ holds.column in
    let py : py_of layout bit ≡ at.py = py_of-is layout s bit placed ∙ omega (arith, rows.1, holds.row) in
    let bank = holds.bank in
    (is_bit, λ i. record { bank = bank i; px = px i; py = py i })

-- the tile that the code finds holds the place
pub holds-parts : (layout : Layout) (at : Place) (n : ℕ) → n < 4 → slice_index layout.banks n ≡ at.bank
    → (u width into : ℕ) → width ≡ width_of layout u → into < width → start_of layout u + into ≡ at.px
    → (x y : ℕ) → x < grid_width layout.device → is_right layout.device x ≡ nat_le 2 n → from_side layout.device x ≡ u
    → y < grid_height layout.device → is_top layout.device y ≡ (n % 2 == 1) → from_end layout.device y ≡ at.py / 16 → Holds layout at x y into
holds-parts layout at n h bank u width into width_is inside column x y x_in right x_is y_in top y_is =
    let width' : width ≡ width_of layout (from_side layout.device x) = width_is ∙ ap (width_of layout) (sym x_is) in
    let inside' : into < width_of layout (from_side layout.device x) = subst (λ n. into < n) width' inside in
    let column' : start_of layout (from_side layout.device x) + into ≡ at.px = ap (λ n. start_of layout n + into) x_is ∙ column in
    let bank' : bank_of layout x y ≡ at.bank = ap (λ n. slice_index layout.banks n) (quarter_of-parts layout.device x y n h right top) ∙ bank in
    record { x_in = x_in; y_in = y_in; bank = bank'; column = column'; inside = inside'; row = y_is }

-- the column that the code counts is the one to look for
pub turned-found : (layout : Layout) (x y u width into column : ℕ) (mirrored : Bool) → mirrored ≡ is_mirrored layout x y → width ≡ width_of layout u
    → from_side layout.device x ≡ u → column ≡ turned mirrored width into → column ≡ turned (is_mirrored layout x y) (width_of layout (from_side layout.device x)) into
turned-found layout x y u width into column mirrored mirrored_is width_is x_is column_is =
    let width' : width ≡ width_of layout (from_side layout.device x) = width_is ∙ ap (width_of layout) (sym x_is) in
    column_is ∙ (λ i. turned (mirrored_is i) (width' i) into)

-- and no other bit does
pub owner-only : (layout : Layout) → IsLayout layout → (at : Place) (bit : TileBit) → IsTileBit layout.device bit → place_of layout bit ≡ at
    → (other : TileBit) → IsTileBit layout.device other → place_of layout other ≡ at → other ≡ bit
owner-only layout s at bit h e other h' e' = place_is_only layout s bit other h h' (e' ∙ sym e)

-- an edge has io tiles
columns_at-edge : (device : DeviceName) (x y : ℕ) (kind : TileKind) → kind_of device x y ≡ Some kind → (is_side device x ≡ true) ⊎ (is_end device y ≡ true) → columns_at device x y ≡ 18
unfolding kind_of
columns_at-edge device x y kind h edge = grind (arith, nat_tests)

-- a column that is found in a list is one of those of an io tile
columns-listed : (layout : Layout) (x y column : ℕ) (entries : List ℕ) → columns_at layout.device x y ≡ 18
    → ((col : ℕ) → column_of layout (record { x = x; y = y; row = 0; col = col }) ≡ slice_index entries col) → (found : Option ℕ)
    → MatchOption found ((col : ℕ) → col < 18 → slice_index entries col ≢ column) (λ col. (col < 18) × (slice_index entries col ≡ column))
    → MatchOption found ((col : ℕ) → col < columns_at layout.device x y → column_of layout (record { x = x; y = y; row = 0; col = col }) ≢ column)
    (λ col. (col < columns_at layout.device x y) × (column_of layout (record { x = x; y = y; row = 0; col = col }) ≡ column))
columns-listed layout x y column entries count listed None h = λ col inside e. h col (omega (arith, inside, count)) (sym (listed col) ∙ e)
columns-listed layout x y column entries count listed (Some col) h = (omega (arith, h.0, count), listed col ∙ h.1)

-- at a side
pub columns-at_side : (layout : Layout) (x y column : ℕ) (kind : TileKind) → kind_of layout.device x y ≡ Some kind → is_side layout.device x ≡ true → (found : Option ℕ)
    → MatchOption found ((col : ℕ) → col < 18 → slice_index layout.side_columns col ≢ column) (λ col. (col < 18) × (slice_index layout.side_columns col ≡ column))
    → MatchOption found ((col : ℕ) → col < columns_at layout.device x y → column_of layout (record { x = x; y = y; row = 0; col = col }) ≢ column)
    (λ col. (col < columns_at layout.device x y) × (column_of layout (record { x = x; y = y; row = 0; col = col }) ≡ column))
columns-at_side layout x y column kind h side found =
    columns-listed layout x y column layout.side_columns (columns_at-edge layout.device x y kind h (inl side)) (λ col. rw side refl) found

-- and in an end row
pub columns-at_end : (layout : Layout) (x y column : ℕ) (kind : TileKind) → kind_of layout.device x y ≡ Some kind → is_side layout.device x ≡ false → is_end layout.device y ≡ true
    → (found : Option ℕ) → MatchOption found ((col : ℕ) → col < 18 → slice_index layout.pad_columns col ≢ column) (λ col. (col < 18) × (slice_index layout.pad_columns col ≡ column))
    → MatchOption found ((col : ℕ) → col < columns_at layout.device x y → column_of layout (record { x = x; y = y; row = 0; col = col }) ≢ column)
    (λ col. (col < columns_at layout.device x y) × (column_of layout (record { x = x; y = y; row = 0; col = col }) ≡ column))
columns-at_end layout x y column kind h side end found =
    columns-listed layout x y column layout.pad_columns (columns_at-edge layout.device x y kind h (inr end)) (λ col. rw side (rw end refl)) found

-- The runs in which the rows of a tile lie.
use Rattle.std.proofs.Common.{◌≡◌, ℕ, ◌+◌, ◌-◌, ◌<◌, ◌≤◌, Bool, true, false, if◌then◌else◌, Option, Some, ◌⊎◌, inl, inr, refl, sym, ◌∙◌, ap, subst, arith}
use Rattle.std.proofs.lemmas.Bool.Decides.{nat_tests}
use Rattle.plane_map.specs.declared.device.DeviceName.{DeviceName}
use Rattle.plane_map.specs.declared.tile.TileBit.{TileBit}
use Rattle.plane_map.specs.declared.tile.TileKind.{TileKind}
use Rattle.plane_map.specs.declared.tile.TileKind.TheVariants.{Io, Logic, RamB, RamT}
use Rattle.plane_map.specs.declared.tile.TileRuns.{TileRuns}
use Rattle.plane_map.specs.Layout.{Layout, IsLayout, kind_of, columns_of, columns_in, columns_at, width_of, start_of, is_side, is_end, is_mirrored, from_side, px_of, py_of, column_of, place_of, cram_width, cram_height, IsTileBit}
use Rattle.plane_map.specs.Runs.{AreRunsOf, IsRunIn, row_run, run_length, run_place}
use Rattle.plane_map.proofs.Grids.{columns_of-some, columns_in-le}
use Rattle.plane_map.proofs.Offsets.{FitsColumn, column, entry-below, turned}
use Rattle.plane_map.proofs.Layouts.{are_columns, from_side-below, width_of-fits}
use Rattle.plane_map.proofs.Places.{IsPlaced, tile_bit_is_placed, px_of-is, bank_of-below, place_is_in}

-- ---- how long the runs are

-- a tile that is there has columns
pub there-some : (device : DeviceName) (x y : ℕ) (kind : TileKind) → kind_of device x y ≡ Some kind → 0 < columns_at device x y
there-some device x y kind there = subst (λ (k : Option TileKind). 0 < columns_in k) (sym there) (columns_of-some kind)

-- those of a tile that is no io tile have its columns alone
logic-length : (device : DeviceName) (x y : ℕ) → kind_of device x y ≡ Some Logic → 54 ≡ run_length device x y
unfolding kind_of
logic-length device x y there = grind (arith, nat_tests)

lower-length : (device : DeviceName) (x y : ℕ) → kind_of device x y ≡ Some RamB → 42 ≡ run_length device x y
unfolding kind_of
lower-length device x y there = grind (arith, nat_tests)

upper-length : (device : DeviceName) (x y : ℕ) → kind_of device x y ≡ Some RamT → 42 ≡ run_length device x y
unfolding kind_of
upper-length device x y there = grind (arith, nat_tests)

pub other-length : (device : DeviceName) (x y : ℕ) (kind : TileKind) → kind_of device x y ≡ Some kind → (kind ≡ Logic) ⊎ ((kind ≡ RamB) ⊎ (kind ≡ RamT)) → columns_of kind ≡ run_length device x y
other-length device x y kind there other = elim other [
  | inl is ↦ ap columns_of is ∙ logic-length device x y (there ∙ ap (λ k. Some k) is)
  | inr ram ↦ elim ram [
    | inl is ↦ ap columns_of is ∙ lower-length device x y (there ∙ ap (λ k. Some k) is)
    | inr is ↦ ap columns_of is ∙ upper-length device x y (there ∙ ap (λ k. Some k) is)
  ]
]

-- an io tile is at a side or in an end row
pub io-length : (device : DeviceName) (x y : ℕ) → kind_of device x y ≡ Some Io → is_side device x ≡ false → 42 ≡ run_length device x y
unfolding kind_of
io-length device x y there side = grind (arith, nat_tests)

-- the edges have tiles of eighteen columns
pub side-columns : (device : DeviceName) (x y : ℕ) → is_side device x ≡ true → 0 < columns_at device x y → columns_at device x y ≡ 18
unfolding kind_of
side-columns device x y side some = grind (arith, nat_tests)

pub end-columns : (device : DeviceName) (x y : ℕ) → is_end device y ≡ true → 0 < columns_at device x y → columns_at device x y ≡ 18
unfolding kind_of
end-columns device x y end some = grind (arith, nat_tests)

-- and runs of eighteen bits, or of 42
pub side-length : (device : DeviceName) (x y : ℕ) → is_side device x ≡ true → 18 ≡ run_length device x y
side-length device x y side = rw side refl

pub end-length : (device : DeviceName) (x y : ℕ) → is_side device x ≡ false → is_end device y ≡ true → 42 ≡ run_length device x y
end-length device x y inner end = rw (inner, end) refl

-- a column of a tile is a bit of its run, and the column of tiles has room for the run
within_run : (layout : Layout) → IsLayout layout → (side end : Bool) (width columns col : ℕ) → FitsColumn side end width col → col < columns → (side ≡ false → end ≡ false → columns ≤ width)
    → (column layout.side_columns layout.pad_columns side end col < (if side then 18 else if end then 42 else columns)) × ((if side then 18 else if end then 42 else columns) ≤ width)
within_run layout sound true end width columns col fits within inner = (entry-below layout.side_columns 18 18 (are_columns layout sound).side_places col fits.0, fits.1)
within_run layout sound false true width columns col fits within inner = (entry-below layout.pad_columns 18 42 (are_columns layout sound).pad_places col fits.0, fits.1)
within_run layout sound false false width columns col fits within inner = (within, inner refl refl)

-- no run is longer than a word
length-few : (side end : Bool) (columns : ℕ) → columns ≤ 54 → (if side then 18 else if end then 42 else columns) ≤ 64
length-few true end columns few = omega arith
length-few false true columns few = omega arith
length-few false false columns few = omega arith

pub run_length-few : (device : DeviceName) (x y : ℕ) → run_length device x y ≤ 64
run_length-few device x y = length-few (is_side device x) (is_end device y) (columns_at device x y) (columns_in-le (kind_of device x y))

-- ---- where they lie

module _ (layout : Layout) (sound : IsLayout layout) (x y row : ℕ) (row_in : row < 16) where
  abbrev columns : ℕ
  columns = columns_at layout.device x y

  abbrev count : ℕ
  count = run_length layout.device x y

  abbrev start : ℕ
  start = start_of layout (from_side layout.device x)

  abbrev room : ℕ
  room = width_of layout (from_side layout.device x)

  abbrev bit_at : ℕ → TileBit
  bit_at col = record { x = x; y = y; row = row; col = col }

  placed : (col : ℕ) → col < columns → IsPlaced layout (bit_at col)
  placed col within = tile_bit_is_placed layout sound (bit_at col) (record { row_in = row_in; col_in = within })

  -- the column of tiles is as wide as a tile in it that is at no edge
  inner-fits : (col : ℕ) → col < columns → is_side layout.device x ≡ false → is_end layout.device y ≡ false → columns ≤ room
  inner-fits col within side end =
      let last : columns - 1 < room = rw (side, end) at (placed (columns - 1) (omega (arith, within))).fits in
      omega (arith, within, last)

  pub run-parts : (col : ℕ) → col < columns → (column_of layout (bit_at col) < count) × (count ≤ room)
  run-parts col within =
      within_run layout sound (is_side layout.device x) (is_end layout.device y) room columns col (placed col within).fits within (inner-fits col within)

  -- the columns of bits of a run
  px-is : (mirrored : Bool) (n : ℕ) → n < count → count ≤ room
      → start + turned mirrored room n ≡ (if mirrored then (if mirrored then start + room - count else start) + count - 1 - n else (if mirrored then start + room - count else start) + n)
  px-is true n within fits = omega arith
  px-is false n within fits = omega arith

  -- a bit of the row is a bit of the run
  pub run-place : (runs : TileRuns) → AreRunsOf layout x y runs → (col : ℕ) → col < columns → place_of layout (bit_at col) ≡ run_place (row_run layout runs row) runs.length (column_of layout (bit_at col))
  unfolding place_of
  run-place runs are col within =
      let parts = run-parts col within in
      let mirrored = is_mirrored layout x y in
      let n = column_of layout (bit_at col) in
      let px = px_of-is layout sound (bit_at col) (placed col within) ∙ px-is mirrored n parts.0 parts.1 in
      let here : px_of layout (bit_at col) ≡ (if runs.backwards then runs.px + runs.length - 1 - n else runs.px + n) =
      px ∙ (λ i. if sym are.backwards i then sym are.px i + sym are.length i - 1 - n else sym are.px i + n)
      in
      λ i. record { bank = sym are.bank i; px = here i; py = py_of layout (record { x = sym are.x_is i; y = sym are.y_is i; row = row; col = 0 }) }

  -- the run lies in its column of tiles
  in_room : (mirrored : Bool) (n : ℕ) → count ≤ room → start + room ≤ n → (if mirrored then start + room - count else start) + count ≤ n
  in_room true n fits before = omega arith
  in_room false n fits before = omega arith

  -- and in the planes
  pub run-in : (runs : TileRuns) → AreRunsOf layout x y runs → IsRunIn (cram_width layout.device) (cram_height layout.device) runs.length (row_run layout runs row)
  unfolding place_of
  run-in runs are =
      let parts = run-parts 0 are.some in
      let is_bit : IsTileBit layout.device (bit_at 0) = record { row_in = row_in; col_in = are.some } in
      let fits = width_of-fits layout sound (from_side layout.device x) (from_side-below layout.device x (placed 0 are.some).x_in) in
      let inside = in_room (is_mirrored layout x y) (cram_width layout.device) parts.1 fits in
      let row_below : py_of layout (record { x = runs.x; y = runs.y; row = row; col = 0 }) < cram_height layout.device =
      subst (λ (x : ℕ). py_of layout (record { x = x; y = runs.y; row = row; col = 0 }) < cram_height layout.device) (sym are.x_is)
      (subst (λ (y : ℕ). py_of layout (record { x = x; y = y; row = row; col = 0 }) < cram_height layout.device) (sym are.y_is) (place_is_in layout sound (bit_at 0) is_bit).py_in)
      in
      record {
        bank_in = subst (λ (bank : ℕ). bank < 4) (sym are.bank) (bank_of-below layout sound x y);
        some = omega (arith, parts.0, are.length);
        few = omega (arith, are.length, run_length-few layout.device x y);
        columns_in = omega (arith, are.px, are.length, inside);
        row_in = row_below;
      }

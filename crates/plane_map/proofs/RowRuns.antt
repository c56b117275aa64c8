-- Rows of tiles and words of RAMs as runs of bits, and which row of tiles lies in a row of bits.
use Rattle.std.proofs.Common.{◌≡◌, ℕ, ◌+◌, ◌-◌, ◌*◌, ◌/◌, ◌%◌, ◌<◌, ◌==◌, Bool, true, false, not, ◌&&◌, if◌then◌else◌, List, slice_index, Some, refl, sym, ◌∙◌, ap, subst, arith}
use Rattle.std.proofs.lemmas.Bool.Decides.{nat_tests}
use Rattle.std.specs.Prelude.{nat_lt}
use Rattle.plane_map.specs.declared.device.DeviceName.{DeviceName}
use Rattle.plane_map.specs.declared.device.DeviceName.TheVariants.{Lp384, Hx1k, Hx8k}
use Rattle.plane_map.specs.declared.tile.TileBit.{TileBit}
use Rattle.plane_map.specs.declared.tile.TileKind.TheVariants.{RamB}
use Rattle.plane_map.specs.declared.tile.Place.{Place}
use Rattle.plane_map.specs.Layout.{Layout, IsLayout, kind_of, columns_at, width_of, start_of, is_side, is_end, is_right, is_top, from_side, from_end, quarter_of, bank_of, ram_of, px_of, py_of, last_y, place_of, word_place_of, grid_height, cram_height, bram_width, bram_height, IsTileBit}
use Rattle.plane_map.specs.Runs.{IsRunIn, run_place, word_run}
use Rattle.plane_map.proofs.Offsets.{ArePlaces, entry-onto, entry-same, height, height-same, quarter, quarter-below}
use Rattle.plane_map.proofs.Layouts.{from_end-same, are_banks, are_pad_rows}
use Rattle.plane_map.proofs.Places.{tile_bit_is_placed, py_of-is, height_of, height_of-below, bank_of-below}
use Rattle.plane_map.proofs.Words.{ram-rows, ram_of_below}

-- ---- runs of words

-- a run of a word
module _ (layout : Layout) (sound : IsLayout layout) (x y word : ℕ) (lower : kind_of layout.device x y ≡ Some RamB) (word_in : word < 256) where
  pub word_run-place : (bit : ℕ) → bit < 16 → word_place_of layout (record { x = x; y = y; word = word; bit = bit }) ≡ run_place (word_run layout x y word) 16 bit
  unfolding word_place_of
  word_run-place bit within =
      let column : 16 * ram_of layout y + 15 - bit ≡ 16 * ram_of layout y + 16 - 1 - bit = omega arith in
      λ i. record { bank = bank_of layout x y; px = column i; py = word }

  pub word_run-in : IsRunIn (bram_width layout.device) (bram_height layout.device) 16 (word_run layout x y word)
  word_run-in = record {
    bank_in = bank_of-below layout sound x y;
    some = omega arith;
    few = omega arith;
    columns_in = ram_of_below layout x y lower;
    row_in = omega (arith, word_in, ram-rows layout.device x y lower);
  }

-- the run that the code makes of a word
pub word_run-parts : (layout : Layout) (x y word bank ram : ℕ) → bank ≡ bank_of layout x y → ram ≡ ram_of layout y → record { bank = bank; px = 16 * ram; py = word; backwards = true } ≡ word_run layout x y word
word_run-parts layout x y word bank ram bank_is ram_is = λ i. record { bank = bank_is i; px = 16 * ram_is i; py = word; backwards = true }

-- ---- rows of bits

-- a quarter's half of the rows
quarter-top : (top right : Bool) (n : ℕ) → quarter top right ≡ n → top ≡ (n % 2 == 1)
quarter-top true true n e = subst (λ (n : ℕ). true ≡ (n % 2 == 1)) e refl
quarter-top true false n e = subst (λ (n : ℕ). true ≡ (n % 2 == 1)) e refl
quarter-top false true n e = subst (λ (n : ℕ). false ≡ (n % 2 == 1)) e refl
quarter-top false false n e = subst (λ (n : ℕ). false ≡ (n % 2 == 1)) e refl

module _ (layout : Layout) (sound : IsLayout layout) (bank py n y row : ℕ) (n_in : n < 4) (bank_is : slice_index layout.banks n ≡ bank) (y_in : y < grid_height layout.device)
    (half : is_top layout.device y ≡ (n % 2 == 1)) (distance : from_end layout.device y ≡ py / 16) (row_in : row < 16)
    (row_is : height layout.pad_rows (is_end layout.device y) (is_top layout.device y && layout.flip) row ≡ py % 16) where
  abbrev height_at : ℕ → ℕ → ℕ
  height_at y row = height layout.pad_rows (is_end layout.device y) (is_top layout.device y && layout.flip) row

  -- bits that lie in a row of bits are of one row of tiles
  pub row-only : (bit : TileBit) → IsTileBit layout.device bit → (place_of layout bit).bank ≡ bank → (place_of layout bit).py ≡ py → (bit.y ≡ y) × (bit.row ≡ row)
  unfolding place_of
  row-only bit is bank_here py_here =
      let device = layout.device in
      let placed = tile_bit_is_placed layout sound bit is in
      let quarters : quarter_of device bit.x bit.y ≡ n = entry-same layout.banks 4 4 (are_banks layout sound) _ _ (quarter-below (is_top device bit.y) (is_right device bit.x)) n_in (bank_here ∙ sym bank_is) in
      let top : is_top device bit.y ≡ is_top device y = quarter-top (is_top device bit.y) (is_right device bit.x) n quarters ∙ sym half in
      let py_is = py_of-is layout sound bit placed in
      let below = height_of-below layout bit placed in
      let rows : from_end device bit.y ≡ from_end device y = omega (arith, py_is, py_here, below, distance) in
      let y_is : bit.y ≡ y = from_end-same device bit.y y placed.y_in y_in top rows in
      let into : height_at bit.y bit.row ≡ py % 16 = omega (arith, py_is, py_here, below) in
      let here : height_at y bit.row ≡ height_at y row = subst (λ (y : ℕ). height_at y bit.row ≡ py % 16) y_is into ∙ sym row_is in
      (y_is, height-same layout.pad_rows (are_pad_rows layout sound) (is_end device y) (is_top device y && layout.flip) bit.row row placed.row_in row_in here)

  -- and the bits of that row lie there
  pub row-there : (bit : TileBit) → IsTileBit layout.device bit → bit.y ≡ y → bit.row ≡ row → (place_of layout bit).py ≡ py
  unfolding place_of
  row-there bit is y_here row_here =
      let e : 16 * from_end layout.device bit.y + height_of layout bit ≡ 16 * from_end layout.device y + height_at y row = λ i. 16 * from_end layout.device (y_here i) + height_at (y_here i) (row_here i) in
      py_of-is layout sound bit (tile_bit_is_placed layout sound bit is) ∙ e ∙ omega (arith, distance, row_is)

-- ---- columns of bits

-- each row of bits has a row of the tiles
height-onto : (pads : List ℕ) → ArePlaces pads 16 16 → (end flipped : Bool) (n : ℕ) → n < 16 → (row : ℕ) × (row < 16) × (height pads end flipped row ≡ n)
height-onto pads s true flipped n within = let found = entry-onto pads 16 s (15 - n) (omega arith) in (found.0, found.1, omega (arith, found.2))
height-onto pads s false true n within = (15 - n, omega arith, omega arith)
height-onto pads s false false n within = (n, within, refl)

-- the row of tiles of the same half that is so far from the end edge
abbrev mate : DeviceName → ℕ → ℕ → ℕ
mate device y v = if is_top device y then last_y device - v else v

mate-is : (device : DeviceName) (y v : ℕ) → y < grid_height device → 16 * v < cram_height device → (mate device y v < grid_height device) × (is_top device (mate device y v) ≡ is_top device y) × (from_end device (mate device y v) ≡ v)
mate-is Lp384 y v inside within = (grind (arith, nat_tests), grind (arith, nat_tests), grind (arith, nat_tests))
mate-is Hx1k y v inside within = (grind (arith, nat_tests), grind (arith, nat_tests), grind (arith, nat_tests))
mate-is Hx8k y v inside within = (grind (arith, nat_tests), grind (arith, nat_tests), grind (arith, nat_tests))

-- an end row is at no distance from the end edge
end-is : (device : DeviceName) (y : ℕ) → y < grid_height device → is_end device y ≡ (from_end device y == 0)
end-is Lp384 y inside = grind (arith, nat_tests)
end-is Hx1k y inside = grind (arith, nat_tests)
end-is Hx8k y inside = grind (arith, nat_tests)

-- two end rows, or two others, have tiles of the same widths
columns-same : (device : DeviceName) (x y y' : ℕ) → y < grid_height device → y' < grid_height device → is_end device y ≡ is_end device y' → columns_at device x y ≡ columns_at device x y'
unfolding kind_of
columns-same device x y y' inside inside' e = grind (arith, nat_tests)

-- the column of bits of a bit, by whether it is in an end row
abbrev px_in : Layout → ℕ → Bool → ℕ → ℕ
px_in layout x end col =
    let u = from_side layout.device x in
    let column = if is_side layout.device x then slice_index layout.side_columns col else if end then slice_index layout.pad_columns col else col in
    if is_right layout.device x && not (is_side layout.device x) && (if end then layout.pad_mirror else layout.mirror) then start_of layout u + width_of layout u - 1 - column else start_of layout u + column

-- If a tile has a bit, some tile has a bit in the same column of each other row of bits that is in an end row of tiles too, or not in one
-- either.
pub column-mate : (layout : Layout) → IsLayout layout → (at : Place) (py : ℕ) → py < cram_height layout.device → nat_lt at.py 16 ≡ nat_lt py 16
    → (bit : TileBit) → IsTileBit layout.device bit → place_of layout bit ≡ at → (other : TileBit) × IsTileBit layout.device other × (place_of layout other ≡ record { bank = at.bank; px = at.px; py = py })
unfolding place_of
column-mate layout sound at py row_in ends bit is here =
    let device = layout.device in
    let placed = tile_bit_is_placed layout sound bit is in
    let v = py / 16 in
    let y = mate device bit.y v in
    let facts = mate-is device bit.y v placed.y_in (omega arith) in
    let py_here : py_of layout bit ≡ at.py = ap (λ (p : Place). p.py) here in
    let from : (from_end device bit.y == 0) ≡ nat_lt at.py 16 = grind (arith, nat_tests, py_here, py_of-is layout sound bit placed, height_of-below layout bit placed) in
    let to : nat_lt py 16 ≡ (from_end device y == 0) = grind (arith, nat_tests, facts.2) in
    let end : is_end device bit.y ≡ is_end device y = end-is device bit.y placed.y_in ∙ from ∙ ends ∙ to ∙ sym (end-is device y facts.0) in
    let found = height-onto layout.pad_rows (are_pad_rows layout sound) (is_end device y) (is_top device y && layout.flip) (py % 16) (omega arith) in
    let other : TileBit = record { x = bit.x; y = y; row = found.0; col = bit.col } in
    let is_other : IsTileBit device other = record { row_in = found.1; col_in = omega (arith, is.col_in, columns-same device bit.x bit.y y placed.y_in facts.0 end) } in
    let bank : bank_of layout bit.x y ≡ at.bank = ap (λ top. slice_index layout.banks (quarter top (is_right device bit.x))) facts.1 ∙ ap (λ (p : Place). p.bank) here in
    let px : px_of layout other ≡ at.px = ap (λ end. px_in layout bit.x end bit.col) (sym end) ∙ ap (λ (p : Place). p.px) here in
    let rows : py_of layout other ≡ py = py_of-is layout sound other (tile_bit_is_placed layout sound other is_other) ∙ omega (arith, facts.2, found.2) in
    (other, is_other, λ i. record { bank = bank i; px = px i; py = rows i })

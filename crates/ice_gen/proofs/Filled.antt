-- Images that are filled bit by bit.
use Rattle.std.proofs.Common.{◌≡◌, ◌≢◌, ℕ, ◌+◌, ◌*◌, ◌/◌, ◌%◌, ◌<◌, ◌≤◌, ◌⊎◌, Bool, true, false, ◌&&◌, refl, sym, ap, ◌∙◌, subst, inl, inr, arith, Some}
use Rattle.std.specs.Prelude.{nat_lt, Option}
use Rattle.std.proofs.lemmas.Bool.{cases_eq, cases_lt, lt-ltb, le-ltb, and_right}
use Rattle.std.proofs.lemmas.Bool.Decides.{nat_tests}
use Rattle.plane_map.specs.Layout.{Layout, standard_layout, grid_width, grid_height, cram_width, cram_height, bram_width, bram_height, columns_at, kind_of, IsTileBit, IsWordBit}
use Rattle.plane_map.specs.declared.tile.TileKind.{TileKind}
use Rattle.plane_map.specs.declared.tile.TileKind.TheVariants.{Logic, RamB}
use Rattle.plane_map.proofs.Grids.{grid_width-le, kind_of-inside}
use Rattle.plane_map.proofs.Layouts.{columns_at-in}
use Rattle.plane_map.specs.declared.device.DeviceName.{DeviceName}
use Rattle.plane_map.specs.declared.device.DeviceName.TheVariants.{Lp384, Hx1k, Hx8k}
use Rattle.plane_map.specs.declared.tile.TileBit.{TileBit}
use Rattle.plane_map.specs.declared.tile.WordBit.{WordBit}
use Rattle.ice_image.specs.Configuration.{Configuration, IsWhole, blank_image}
use Rattle.plane_map.proofs.Standard.{standard_is_layout}
use Rattle.ice_image.proofs.BankBits.{AreBanks-blank}
use Rattle.ice_image.proofs.Bits.{bit_of-blank}
use Rattle.ice_image.specs.Bits.{Bit, OfTile, OfWord, Extra, IsBit, bit_of, IsSet}
use Rattle.ice_gen.specs.Numbers.{cell_number}
use Rattle.ice_gen.specs.Image.{is_generated, is_tile_bit, is_row_bit, lut_draw, choice_draw}
use Rattle.ice_gen.specs.Draws.{draw}
use Rattle.ice_gen.specs.Inside.{FillsRow, IsFilled, turn, word_turn, is_tile_before, is_word_before}

-- the bits that count after a step are those before it, except one bit
abbrev pub IsStep : DeviceName → Bit → (Bit → Bool) → (Bit → Bool) → Type 0
IsStep device bit is_done is_next = (other : Bit) → IsBit (standard_layout device) other → (other ≡ bit) ⊎ ((other ≢ bit) × (is_next other ≡ is_done other))

module _ (device : DeviceName) (seed : ℕ) (is_done is_next : Bit → Bool) where
  -- a bit that is 1 is set
  pub filled-set : (bit : Bit) (before after : Configuration) → IsStep device bit is_done is_next → is_next bit ≡ true → is_generated device seed bit ≡ true → IsSet bit true before after
      → IsFilled device seed is_done before → IsFilled device seed is_next after
  filled-set bit before after step reached one set filled = record {
    layout_is = set.others.layout ∙ filled.layout_is;
    comment = set.others.comment ∙ filled.comment;
    settings = set.others.settings ∙ filled.settings;
    whole = set.others.whole;
    bits = λ other is. elim (step other is) [
      | inl same ↦ ap (bit_of after) same ∙ set.set ∙ sym (ap (λ b. is_next b && is_generated device seed b) same ∙ rw (reached, one) refl)
      | inr apart ↦ set.others.bits other (let P : Layout → Type 0 = λ l. IsBit l other in subst P (sym filled.layout_is) is) apart.0 ∙ filled.bits other is ∙ ap (λ b. b && is_generated device seed other) (sym apart.1)
    ];
  }

  -- a bit that is 0 is skipped
  pub filled-past : (bit : Bit) (image : Configuration) → IsStep device bit is_done is_next → is_generated device seed bit ≡ false
      → IsFilled device seed is_done image → IsFilled device seed is_next image
  filled-past bit image step zero filled = record {
    layout_is = filled.layout_is;
    comment = filled.comment;
    settings = filled.settings;
    whole = filled.whole;
    bits = λ other is. filled.bits other is ∙ elim (step other is) [
      | inl same ↦ let none : is_generated device seed other ≡ false = ap (is_generated device seed) same ∙ zero in and_right (is_done other) _ none ∙ sym (and_right (is_next other) _ none)
      | inr apart ↦ ap (λ b. b && is_generated device seed other) (sym apart.1)
    ];
  }

  -- places without a bit that is 1 are skipped
  pub filled-same : (image : Configuration) → ((other : Bit) → IsBit (standard_layout device) other → (is_done other ≡ is_next other) ⊎ (is_generated device seed other ≡ false))
      → IsFilled device seed is_done image → IsFilled device seed is_next image
  filled-same image same filled = record {
    layout_is = filled.layout_is;
    comment = filled.comment;
    settings = filled.settings;
    whole = filled.whole;
    bits = λ other is. filled.bits other is ∙ elim (same other is) [
      | inl alike ↦ ap (λ b. b && is_generated device seed other) alike
      | inr none ↦ and_right (is_done other) _ none ∙ sym (and_right (is_next other) _ none)
    ];
  }

-- ---- the order of the bits

-- a tile is narrow, and the grid small
pub narrow : (device : DeviceName) (x y col : ℕ) → col < columns_at device x y → (col < 54) × (x < 34) × (y < 34)
unfolding kind_of
narrow Lp384 x y col is = grind (arith, nat_tests)
narrow Hx1k x y col is = grind (arith, nat_tests)
narrow Hx8k x y col is = grind (arith, nat_tests)

pub in-grid : (device : DeviceName) (bit : TileBit) → IsTileBit device bit → (bit.col < 54) × (bit.x < 34) × (bit.y < 34)
in-grid device bit is = narrow device bit.x bit.y bit.col is.col_in

-- so is a RAM
pub lower-narrow : (device : DeviceName) (x y : ℕ) → kind_of device x y ≡ Some RamB → (x < 34) × (y < 34)
unfolding kind_of
lower-narrow Lp384 x y is = grind (arith, nat_tests)
lower-narrow Hx1k x y is = grind (arith, nat_tests)
lower-narrow Hx8k x y is = grind (arith, nat_tests)

pub width-most : (device : DeviceName) (x y width : ℕ) → columns_at device x y ≡ width → width ≤ 54
unfolding kind_of
width-most device x y width is = grind (arith, nat_tests)

-- an image without bits has the device's sizes
blank-whole : (device : DeviceName) → IsWhole (blank_image (standard_layout device))
blank-whole device = record {
  layout = standard_is_layout device;
  cram = AreBanks-blank (cram_width device) (cram_height device);
  bram = AreBanks-blank (bram_width device) (bram_height device);
}

-- a bound that moves past one number
lt-step : (a t : ℕ) → (a ≢ t) → nat_lt a (t + 1) ≡ nat_lt a t
lt-step a t apart = grind (arith, nat_tests)

-- one bit of a tile more
pub tile-step : (device : DeviceName) (bit : TileBit) (t : ℕ) → IsTileBit device bit → t ≡ turn bit.x bit.y bit.row bit.col → IsStep device (OfTile bit) (is_tile_before t) (is_tile_before (t + 1))
tile-step device bit t is t_is (OfTile other) is_other =
    let here = in-grid device bit is in
    let there = in-grid device other is_other in
    let p : TileBit → ℕ = λ b. turn b.x b.y b.row b.col in
    elim (cases_eq (p other) t) [
      | inl same ↦
          let row : other.row ≡ bit.row = omega (arith, is.row_in, is_other.row_in, here.0, there.0) in
          let col : other.col ≡ bit.col = omega (arith, here.0, there.0) in
          let x : other.x ≡ bit.x = omega (arith, is.row_in, is_other.row_in, here.0, there.0, here.1, there.1) in
          let y : other.y ≡ bit.y = omega (arith, is.row_in, is_other.row_in, here.0, there.0, here.1, there.1) in
          let whole : other ≡ bit = λ i. record { x = x i; y = y i; row = row i; col = col i } in
          inl (ap (λ b. OfTile b) whole)
      | inr apart ↦ inr ((λ e. apart (ap tile_turn e ∙ sym t_is)), lt-step (p other) t apart)
    ]
  where
    tile_turn : Bit → ℕ
    tile_turn (OfTile b) = turn b.x b.y b.row b.col
    tile_turn b = 0
tile-step device bit t is t_is (OfWord other) is_other = inr ((λ e. cc e), refl)
tile-step device bit t is t_is (Extra other) is_other = inr ((λ e. cc e), refl)

-- one bit of a word more
pub word-step : (device : DeviceName) (bit : WordBit) (t : ℕ) → IsWordBit device bit → t ≡ word_turn bit.x bit.y bit.word bit.bit → IsStep device (OfWord bit) (is_word_before t) (is_word_before (t + 1))
word-step device bit t is t_is (OfWord other) is_other =
    let here = lower-narrow device bit.x bit.y is.lower in
    let there = lower-narrow device other.x other.y is_other.lower in
    let p : WordBit → ℕ = λ b. word_turn b.x b.y b.word b.bit in
    elim (cases_eq (p other) t) [
      | inl same ↦
          let bit_is : other.bit ≡ bit.bit = omega (arith, is.bit_in, is_other.bit_in) in
          let word : other.word ≡ bit.word = omega (arith, is.bit_in, is_other.bit_in, is.word_in, is_other.word_in) in
          let x : other.x ≡ bit.x = omega (arith, is.bit_in, is_other.bit_in, is.word_in, is_other.word_in, here.0, there.0) in
          let y : other.y ≡ bit.y = omega (arith, is.bit_in, is_other.bit_in, is.word_in, is_other.word_in, here.0, there.0) in
          let whole : other ≡ bit = λ i. record { x = x i; y = y i; word = word i; bit = bit_is i } in
          inl (ap (λ b. OfWord b) whole)
      | inr apart ↦ inr ((λ e. apart (ap turn_of e ∙ sym t_is)), lt-step (p other) t apart)
    ]
  where
    turn_of : Bit → ℕ
    turn_of (OfWord b) = word_turn b.x b.y b.word b.bit
    turn_of b = 0
word-step device bit t is t_is (OfTile other) is_other = inr ((λ e. cc e), refl)
word-step device bit t is t_is (Extra other) is_other = inr ((λ e. cc e), refl)

module _ (device : DeviceName) (seed : ℕ) (image : Configuration) where
  -- bits of tiles that are 0 are skipped
  pub skip-tiles : (from to : ℕ) → from ≤ to → ((bit : TileBit) → IsTileBit device bit → from ≤ turn bit.x bit.y bit.row bit.col → turn bit.x bit.y bit.row bit.col < to → is_generated device seed (OfTile bit) ≡ false)
      → IsFilled device seed (is_tile_before from) image → IsFilled device seed (is_tile_before to) image
  skip-tiles from to rise zero = filled-same device seed (is_tile_before from) (is_tile_before to) image each
    where
      each : (other : Bit) → IsBit (standard_layout device) other → (is_tile_before from other ≡ is_tile_before to other) ⊎ (is_generated device seed other ≡ false)
      each (OfTile o) is =
          let t : ℕ = turn o.x o.y o.row o.col in
          elim (cases_lt t from) [
            | inl below ↦ let under : t < to = omega arith in inl (lt-ltb t from below ∙ sym (lt-ltb t to under))
            | inr above ↦ elim (cases_lt t to) [
              | inl below ↦ inr (zero o is above below)
              | inr past ↦ inl (le-ltb t from above ∙ sym (le-ltb t to past))
            ]
          ]
      each (OfWord o) is = inl refl
      each (Extra o) is = inl refl

  -- bits of words that are 0 are skipped
  pub skip-words : (from to : ℕ) → from ≤ to → ((bit : WordBit) → IsWordBit device bit → from ≤ word_turn bit.x bit.y bit.word bit.bit → word_turn bit.x bit.y bit.word bit.bit < to → is_generated device seed (OfWord bit) ≡ false)
      → IsFilled device seed (is_word_before from) image → IsFilled device seed (is_word_before to) image
  skip-words from to rise zero = filled-same device seed (is_word_before from) (is_word_before to) image each
    where
      each : (other : Bit) → IsBit (standard_layout device) other → (is_word_before from other ≡ is_word_before to other) ⊎ (is_generated device seed other ≡ false)
      each (OfWord o) is =
          let t : ℕ = word_turn o.x o.y o.word o.bit in
          elim (cases_lt t from) [
            | inl below ↦ let under : t < to = omega arith in inl (lt-ltb t from below ∙ sym (lt-ltb t to under))
            | inr above ↦ elim (cases_lt t to) [
              | inl below ↦ inr (zero o is above below)
              | inr past ↦ inl (le-ltb t from above ∙ sym (le-ltb t to past))
            ]
          ]
      each (OfTile o) is = inl refl
      each (Extra o) is = inl refl

  -- after the last column of a row of a tile
  pub skip-columns : (x y row width : ℕ) → x < 34 → columns_at device x y ≡ width → row < 16 → IsFilled device seed (is_tile_before (turn x y row width)) image → IsFilled device seed (is_tile_before (turn x y (row + 1) 0)) image
  skip-columns x y row width near wide low =
      let most : width ≤ 54 = width-most device x y width wide in
      skip-tiles (turn x y row width) (turn x y (row + 1) 0) (omega arith) (λ bit is above below.
      let there = in-grid device bit is in
      let x_is : bit.x ≡ x = omega (arith, is.row_in, there.0, there.1) in
      let y_is : bit.y ≡ y = omega (arith, is.row_in, there.0, there.1) in
      let within : bit.col < width = subst (λ n. bit.col < n) (ap (λ x. columns_at device x bit.y) x_is ∙ ap (columns_at device x) y_is ∙ wide) is.col_in in
      absurd (omega (arith, is.row_in, there.0, there.1)))

  -- a tile whose bits are all 0
  pub skip-tile : (x y : ℕ) → x < 34 → ((bit : TileBit) → IsTileBit device bit → bit.x ≡ x → bit.y ≡ y → is_generated device seed (OfTile bit) ≡ false)
      → IsFilled device seed (is_tile_before (turn x y 0 0)) image → IsFilled device seed (is_tile_before (turn (x + 1) y 0 0)) image
  skip-tile x y low zero =
      skip-tiles (turn x y 0 0) (turn (x + 1) y 0 0) (omega arith) (λ bit is above below.
      let there = in-grid device bit is in
      zero bit is (omega (arith, is.row_in, there.0, there.1)) (omega (arith, is.row_in, there.0, there.1)))

  -- after the last column of the grid
  pub skip-edge : (x y : ℕ) → x ≡ grid_width device → IsFilled device seed (is_tile_before (turn x y 0 0)) image → IsFilled device seed (is_tile_before (turn 0 (y + 1) 0 0)) image
  skip-edge x y last =
      let most : grid_width device ≤ 34 = grid_width-le device in
      skip-tiles (turn x y 0 0) (turn 0 (y + 1) 0 0) (omega arith) (λ bit is above below.
      let there = in-grid device bit is in
      let inside = (columns_at-in device bit.x bit.y bit.col is.col_in).0 in
      absurd (omega (arith, is.row_in, there.0, there.1, inside)))

  -- all bits of tiles are done, and none of words
  pub skip-tiles-end : (y : ℕ) → y ≡ grid_height device → IsFilled device seed (is_tile_before (turn 0 y 0 0)) image → IsFilled device seed (is_word_before 0) image
  skip-tiles-end y last = filled-same device seed (is_tile_before (turn 0 y 0 0)) (is_word_before 0) image each
    where
      each : (other : Bit) → IsBit (standard_layout device) other → (is_tile_before (turn 0 y 0 0) other ≡ is_word_before 0 other) ⊎ (is_generated device seed other ≡ false)
      each (OfTile o) is =
          let there = in-grid device o is in
          let inside = (columns_at-in device o.x o.y o.col is.col_in).1 in
          inl (lt-ltb (turn o.x o.y o.row o.col) (turn 0 y 0 0) (omega (arith, is.row_in, there.0, there.1, inside)))
      each (OfWord o) is = let t : ℕ = word_turn o.x o.y o.word o.bit in inl (sym (le-ltb t 0 (omega arith)))
      each (Extra o) is = inl refl

  -- a place without a RAM
  pub skip-ram : (x y : ℕ) → x < 34 → (kind_of device x y ≢ Some RamB) → IsFilled device seed (is_word_before (word_turn x y 0 0)) image → IsFilled device seed (is_word_before (word_turn (x + 1) y 0 0)) image
  skip-ram x y low other =
      skip-words (word_turn x y 0 0) (word_turn (x + 1) y 0 0) (omega arith) (λ bit is above below.
      let there = lower-narrow device bit.x bit.y is.lower in
      let x_is : bit.x ≡ x = omega (arith, is.bit_in, is.word_in, there.0) in
      let y_is : bit.y ≡ y = omega (arith, is.bit_in, is.word_in, there.0) in
      absurd (other (ap (λ x. kind_of device x y) (sym x_is) ∙ ap (kind_of device bit.x) (sym y_is) ∙ is.lower)))

  -- after the last column of the grid
  pub skip-ram-edge : (x y : ℕ) → x ≡ grid_width device → IsFilled device seed (is_word_before (word_turn x y 0 0)) image → IsFilled device seed (is_word_before (word_turn 0 (y + 1) 0 0)) image
  skip-ram-edge x y last =
      let most : grid_width device ≤ 34 = grid_width-le device in
      skip-words (word_turn x y 0 0) (word_turn 0 (y + 1) 0 0) (omega arith) (λ bit is above below.
      let there = lower-narrow device bit.x bit.y is.lower in
      let inside = (kind_of-inside device bit.x bit.y RamB is.lower).0 in
      absurd (omega (arith, is.bit_in, is.word_in, there.0, inside)))

  -- a tile of a kind whose bits are all 0
  pub skip-kind : (x y : ℕ) (kind : Option TileKind) → x < grid_width device → kind_of device x y ≡ kind → ((row col : ℕ) → is_tile_bit device seed kind x y row col ≡ false)
      → IsFilled device seed (is_tile_before (turn x y 0 0)) image → IsFilled device seed (is_tile_before (turn (x + 1) y 0 0)) image
  skip-kind x y kind column there zero =
      let most : grid_width device ≤ 34 = grid_width-le device in
      skip-tile x y (omega arith) (λ bit is x_is y_is.
      let P : ℕ → ℕ → Type 0 = λ a b. is_tile_bit device seed (kind_of device a b) a b bit.row bit.col ≡ false in
      let here : P x y = ap (λ k. is_tile_bit device seed k x y bit.row bit.col) there ∙ zero bit.row bit.col in
      let across : P bit.x y = subst (λ a. P a y) (sym x_is) here in
      subst (P bit.x) (sym y_is) across)

  -- no bit is set at first
  pub blank-filled : image ≡ blank_image (standard_layout device) → IsFilled device seed (is_tile_before 0) image
  blank-filled is = record {
    layout_is = ap (λ (c : Configuration). c.layout) is;
    comment = ap (λ (c : Configuration). c.comment) is;
    settings = ap (λ (c : Configuration). c.settings) is;
    whole = subst (λ (c : Configuration). IsWhole c) (sym is) (blank-whole device);
    bits = each;
  }
    where
      each : (bit : Bit) → IsBit (standard_layout device) bit → bit_of image bit ≡ (is_tile_before 0 bit && is_generated device seed bit)
      each (OfTile bit) is_bit = ap (λ c. bit_of c (OfTile bit)) is ∙ bit_of-blank (standard_layout device) (OfTile bit) is_bit ∙ ap (λ b. b && is_generated device seed (OfTile bit)) (sym (le-ltb (turn bit.x bit.y bit.row bit.col) 0 (omega arith)))
      each (OfWord bit) is_bit = ap (λ c. bit_of c (OfWord bit)) is ∙ bit_of-blank (standard_layout device) (OfWord bit) is_bit
      each (Extra at) is_bit = ap (λ c. bit_of c (Extra at)) is ∙ bit_of-blank (standard_layout device) (Extra at) is_bit

-- ---- on a device by another name

-- one bit more
pub filled-on : (counts : ℕ → Bit → Bool) (device other : DeviceName) (seed from to : ℕ) (bit : Bit) (value : Bool) (before after : Configuration) → other ≡ device → from + 1 ≡ to
    → (is_generated other seed bit ≡ value → IsFilled other seed (counts from) before → IsFilled other seed (counts (from + 1)) after)
    → is_generated device seed bit ≡ value → IsFilled device seed (counts from) before → IsFilled device seed (counts to) after
filled-on counts device other seed from to bit value before after same more step gen filled =
    let P : ℕ → Type 0 = λ n. IsFilled device seed (counts n) after in
    let Q : DeviceName → Type 0 = λ d. is_generated d seed bit ≡ value → IsFilled d seed (counts from) before → IsFilled d seed (counts (from + 1)) after in
    subst P more (subst Q same step gen filled)

-- a bit of a cell
pub cell-bit-is : (device : DeviceName) (seed x y row col j lut choice : ℕ) (bit : Bool) → kind_of device x y ≡ Some Logic → j ≡ cell_number device x y (row / 2) → lut ≡ lut_draw seed j → choice ≡ choice_draw seed j
    → bit ≡ is_row_bit device j lut choice (row % 2) col → is_generated device seed (OfTile (record { x = x; y = y; row = row; col = col })) ≡ bit
cell-bit-is device seed x y row col j lut choice bit there j_is lut_is choice_is bit_is =
    ap (λ k. is_tile_bit device seed k x y row col) there
    ∙ sym (bit_is ∙ ap (λ lut. is_row_bit device j lut choice (row % 2) col) lut_is
    ∙ ap (λ choice. is_row_bit device j (lut_draw seed j) choice (row % 2) col) choice_is
    ∙ ap (λ j. is_row_bit device j (lut_draw seed j) (choice_draw seed j) (row % 2) col) j_is)

-- the two rows of a cell
pub cell-filled : (device other : DeviceName) (seed x y i lut choice count : ℕ) (before middle after : Configuration) → other ≡ device → count ≡ 2 * cell_number device x y i → lut ≡ draw seed count → choice ≡ draw seed (count + 1)
    → FillsRow device (cell_number device x y (2 * i / 2)) lut choice (turn x y (2 * i) 0) (turn x y (2 * i + 1) 0) before middle
    → FillsRow other (cell_number other x y ((2 * i + 1) / 2)) lut choice (turn x y (2 * i + 1) 0) (turn x y (2 * i + 1 + 1) 0) middle after
    → IsFilled device seed (is_tile_before (turn x y (2 * i) 0)) before → IsFilled device seed (is_tile_before (turn x y (2 * i + 2) 0)) after
cell-filled device other seed x y i lut choice count before middle after same count_is lut_is choice_is first second filled =
    let half : 2 * i / 2 ≡ i = omega arith in
    let again : (2 * i + 1) / 2 ≡ i = omega arith in
    let last : 2 * i + 1 + 1 ≡ 2 * i + 2 = omega arith in
    let P : ℕ → Type 0 = λ k. FillsRow device (cell_number device x y k) lut choice (turn x y (2 * i) 0) (turn x y (2 * i + 1) 0) before middle in
    let Q : DeviceName → Type 0 = λ d. FillsRow d (cell_number d x y ((2 * i + 1) / 2)) lut choice (turn x y (2 * i + 1) 0) (turn x y (2 * i + 1 + 1) 0) middle after in
    let R : ℕ → ℕ → Type 0 = λ k row. FillsRow device (cell_number device x y k) lut choice (turn x y (2 * i + 1) 0) (turn x y row 0) middle after in
    let one : P i = subst P half first in
    let there : R ((2 * i + 1) / 2) (2 * i + 1 + 1) = subst Q same second in
    let two : R i (2 * i + 2) = subst (R i) last (subst (λ k. R k (2 * i + 1 + 1)) again there) in
    let lut_drawn : lut ≡ lut_draw seed (cell_number device x y i) = lut_is ∙ ap (λ n. draw seed n) count_is in
    let choice_drawn : choice ≡ choice_draw seed (cell_number device x y i) = choice_is ∙ ap (λ n. draw seed (n + 1)) count_is in
    two seed lut_drawn choice_drawn (one seed lut_drawn choice_drawn filled)

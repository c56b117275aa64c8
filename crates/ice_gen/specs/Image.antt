-- The image of the generated design: what each bit is; a seed fixes it. Draws are counted from 0: two for each logic cell, then one for
-- each word of each RAM.
use Rattle.std.specs.Prelude.{ℕ, ◌+◌, ◌-◌, ◌*◌, ◌/◌, ◌%◌, Bool, false, not, ◌&&◌, ◌||◌, slice_index, nat_le, nat_lt, ◌==◌, if◌then◌else◌, Option, None, Some}
use Rattle.index_search.specs.Places.{any_below}
use Rattle.plane_map.specs.Layout.{standard_layout, kind_of}
use Rattle.plane_map.specs.declared.device.DeviceName.{DeviceName}
use Rattle.plane_map.specs.declared.tile.TileKind.{TileKind}
use Rattle.plane_map.specs.declared.tile.TileKind.TheVariants.{Io, Logic}
use Rattle.ice_image.specs.Configuration.{Configuration, usual_settings}
use Rattle.ice_image.specs.Owned.{is_same_place}
use Rattle.ice_image.specs.Bits.{Bit, OfTile, OfWord, Extra, image_from}
use Rattle.fabric_model.specs.Cells.{entry_bits}
use Rattle.ice_gen.specs.Draws.{draw, has_bit}
use Rattle.ice_gen.specs.Numbers.{cells, rams, cell_number, ram_number}
use Rattle.ice_gen.specs.Database.{pad_drive}

-- ---- cells

-- Entry k of a LUT is bit k of a draw. Entry 0 is always 1, so every cell is used.
abbrev pub is_entry : ℕ → ℕ → Bool
is_entry lut k = (k == 0) || has_bit lut k

-- one of the twenty bits of a logic cell: an entry of its LUT, or bit 9, its flip-flop enable
unfoldable pub is_cell_bit : ℕ → ℕ → ℕ → Bool
is_cell_bit lut choice place = any_below 16 (λ k. (slice_index entry_bits k == place) && is_entry lut k) || ((place == 9) && has_bit choice 1)

-- A bit of one of the two rows of cell j. Columns 36 to 45 have the bits of the cell, column 0 the bits that choose which net drives in_0,
-- and column 1 the bit by which RAM j drives in_3.
unfoldable pub is_row_bit : DeviceName → ℕ → ℕ → ℕ → ℕ → ℕ → Bool
is_row_bit device j lut choice row col =
    if nat_le 36 col && nat_lt col 46 then is_cell_bit lut choice (10 * row + (col - 36))
    else if col == 0 then (if row == 0 then not (has_bit choice 0) else has_bit choice 0)
    else (col == 1) && (row == 0) && nat_lt j (rams device)

-- the draws of cell j
abbrev pub lut_draw : ℕ → ℕ → ℕ
lut_draw seed j = draw seed (2 * j)

abbrev pub choice_draw : ℕ → ℕ → ℕ
choice_draw seed j = draw seed (2 * j + 1)

-- a bit of cell j, in one of its two rows
abbrev pub is_bit_of_cell : DeviceName → ℕ → ℕ → ℕ → ℕ → Bool
is_bit_of_cell device seed j row col = is_row_bit device j (lut_draw seed j) (choice_draw seed j) row col

-- ---- pins

-- PIN_TYPE of the first pin of a tile at the left edge (`SB_IO`): 000001 for inputs, 011001 for outputs.
abbrev pub pin_type : ℕ → ℕ
pin_type y =
    if (y == 1) || (y == 2) then 0b000001
    else if (y == 3) || (y == 4) then 0b011001
    else 0

-- a bit of an io tile
unfoldable pub is_pin_bit : ℕ → ℕ → ℕ → ℕ → Bool
is_pin_bit x y row col = (x == 0) && (col == 0) && has_bit (pin_type y) row

-- ---- the whole

-- a bit of a tile
abbrev pub is_tile_bit : DeviceName → ℕ → Option TileKind → ℕ → ℕ → ℕ → ℕ → Bool
is_tile_bit device seed (Some Io) x y row col = is_pin_bit x y row col
is_tile_bit device seed (Some Logic) x y row col = is_bit_of_cell device seed (cell_number device x y (row / 2)) (row % 2) col
is_tile_bit device seed kind x y row col = false

-- the draw of a word of RAM r
abbrev pub word_draw : DeviceName → ℕ → ℕ → ℕ → ℕ
word_draw device seed r word = draw seed (2 * cells device + 256 * r + word)

-- whether a bit of the image is 1
abbrev pub is_generated : DeviceName → ℕ → Bit → Bool
is_generated device seed (OfTile bit) = is_tile_bit device seed (kind_of device bit.x bit.y) bit.x bit.y bit.row bit.col
is_generated device seed (OfWord bit) = has_bit (word_draw device seed (ram_number device bit.x bit.y) bit.word) bit.bit
is_generated device seed (Extra at) = is_same_place at (pad_drive device)

-- the image: no comment, the usual settings, and these bits
unfoldable pub generated_image : DeviceName → ℕ → Configuration
generated_image device seed = image_from (standard_layout device) None usual_settings (is_generated device seed)

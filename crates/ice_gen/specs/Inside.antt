-- What holds while text and image are made. Only contracts within this crate use this.
use Rattle.std.specs.Prelude.{◌≡◌, ℕ, ◌+◌, ◌-◌, ◌*◌, ◌/◌, ◌%◌, Bool, true, false, ◌&&◌, ◌||◌, List, nat_lt, nat_le, ◌==◌, if◌then◌else◌, None}
use Rattle.plane_map.specs.Layout.{standard_layout, last_x, last_y, ram_column}
use Rattle.plane_map.specs.declared.device.DeviceName.{DeviceName}
use Rattle.ice_image.specs.Configuration.{Configuration, IsWhole, usual_settings}
use Rattle.ice_image.specs.Bits.{Bit, OfTile, OfWord, Extra, IsBit, bit_of}
use Rattle.ice_gen.specs.Numbers.{logic_columns, rams, cell_number, in_0_net, in_3_net, read_net, write_enable_net, read_enable_net, middle_net}
use Rattle.ice_gen.specs.Database.{in_0_lines, in_3_lines_below}
use Rattle.ice_gen.specs.Image.{is_generated, lut_draw, choice_draw, word_draw}
use Rattle.ice_gen.specs.declared.buffers.Input.{Input}
use Rattle.ice_gen.specs.declared.buffers.Input.TheVariants.{In0, In3}

-- ---- the text

-- the buffers into an input of a cell
abbrev pub lines_into : Input → DeviceName → ℕ → ℕ → ℕ → ℕ → List (List ℕ)
lines_into In0 device x y j i = in_0_lines device x y j i
lines_into In3 device x y j i = in_3_lines_below device x y j i

-- whether a net is one of `count` nets in sequence
abbrev pub is_among : ℕ → ℕ → ℕ → Bool
is_among net first count = nat_le first net && nat_lt net (first + count)

-- whether a net may get a name from a tile other than those of the two cells that it connects
abbrev pub is_shared : DeviceName → ℕ → Bool
is_shared device net =
    nat_lt net (2 + 16 * rams device) || nat_le (read_net device 0 0) net
    || (net == write_enable_net device) || (net == read_enable_net device) || (net == middle_net device)

-- whether a net is an output or an input of a cell in a logic tile; `first` is the first cell of the tile
abbrev pub is_of_cells : DeviceName → ℕ → ℕ → Bool
is_of_cells device net first =
    is_among net first 10 || is_among net (in_0_net device first) 8 || is_among net (in_3_net device first) 8

-- the first cell of a row of the grid
abbrev pub first_of_row : DeviceName → ℕ → ℕ
first_of_row device y = cell_number device 1 y 0

-- whether a net is an output or an input of a cell in a row of the grid
abbrev pub is_of_row : DeviceName → ℕ → ℕ → Bool
is_of_row device net y =
    is_among net (first_of_row device y) (8 * logic_columns device + 2)
    || is_among net (in_0_net device (first_of_row device y)) (8 * logic_columns device)

-- ---- the image

-- an image in which the bits that are done have their values, and all others are 0
pub record IsFilled (device : DeviceName) (seed : ℕ) (is_done : Bit → Bool) (image : Configuration) : Type 0 where
  pub layout_is : image.layout ≡ standard_layout device
  pub comment : image.comment ≡ None
  pub settings : image.settings ≡ usual_settings
  pub whole : IsWhole image
  pub bits : (bit : Bit) → IsBit (standard_layout device) bit → bit_of image bit ≡ (is_done bit && is_generated device seed bit)

-- the turn of a bit of a tile in the order in which the bits are set
abbrev pub turn : ℕ → ℕ → ℕ → ℕ → ℕ
turn x y row col = 64 * (16 * (64 * y + x) + row) + col

-- the bits of tiles whose turn comes before a limit
abbrev pub is_tile_before : ℕ → Bit → Bool
is_tile_before limit (OfTile bit) = nat_lt (turn bit.x bit.y bit.row bit.col) limit
is_tile_before limit bit = false

-- the turn of a bit of a word in the order in which the bits are set
abbrev pub word_turn : ℕ → ℕ → ℕ → ℕ → ℕ
word_turn x y word bit = 16 * (256 * (64 * y + x) + word) + bit

-- all bits of tiles, and the bits of words whose turn comes before a limit
abbrev pub is_word_before : ℕ → Bit → Bool
is_word_before limit (OfTile bit) = true
is_word_before limit (OfWord bit) = nat_lt (word_turn bit.x bit.y bit.word bit.bit) limit
is_word_before limit (Extra at) = false

-- An image that was filled up to the first turn is now filled up to the second one, whatever the seed is.
abbrev pub Fills : DeviceName → ℕ → ℕ → Configuration → Configuration → Type 0
Fills device from to before after =
    (seed : ℕ) → IsFilled device seed (is_tile_before from) before → IsFilled device seed (is_tile_before to) after

-- the same as `Fills`, for a row of cell j whose draws are those of the seed
abbrev pub FillsRow : DeviceName → ℕ → ℕ → ℕ → ℕ → ℕ → Configuration → Configuration → Type 0
FillsRow device j lut choice from to before after =
    (seed : ℕ) → lut ≡ lut_draw seed j → choice ≡ choice_draw seed j → IsFilled device seed (is_tile_before from) before → IsFilled device seed (is_tile_before to) after

-- the same as `Fills`, for a word of RAM r whose draw is that of the seed
abbrev pub FillsWord : DeviceName → ℕ → ℕ → ℕ → ℕ → ℕ → Configuration → Configuration → Type 0
FillsWord device r word value from to before after =
    (seed : ℕ) → value ≡ word_draw device seed r word → IsFilled device seed (is_word_before from) before → IsFilled device seed (is_word_before to) after

-- whether a row of tiles is between the top and the bottom edge
abbrev pub is_inner : DeviceName → ℕ → Bool
is_inner device y = nat_lt 0 y && nat_lt y (last_y device)

abbrev pub one_if : Bool → ℕ
one_if test = if test then 1 else 0

-- how many RAM columns are to the left of a column
abbrev pub ram_to_left : DeviceName → ℕ → ℕ
ram_to_left device x = one_if (nat_lt (ram_column device) x) + one_if (nat_lt (last_x device - ram_column device) x)

-- how many logic columns are to the left of a column
abbrev pub logic_before_x : DeviceName → ℕ → ℕ
logic_before_x device x = x - one_if (nat_lt 0 x) - ram_to_left device x - one_if (nat_lt (last_x device) x)

-- how many logic tiles come before (x, y)
abbrev pub logic_before : DeviceName → ℕ → ℕ → ℕ
logic_before device x y =
    logic_columns device * (y - 1 - one_if (nat_lt (last_y device) y)) + (if is_inner device y then logic_before_x device x else 0)

-- how many RAMs come before (x, y)
abbrev pub rams_before : DeviceName → ℕ → ℕ → ℕ
rams_before device x y = 2 * ((y - one_if (nat_lt (last_y device) y)) / 2) + (if is_inner device y && (y % 2 == 1) then ram_to_left device x else 0)

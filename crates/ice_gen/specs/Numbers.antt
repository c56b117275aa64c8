-- How many logic cells, RAMs and nets the design has, and the numbers of its cells and RAMs. Tiles are numbered by row of the grid from the
-- bottom up, within a row from left to right, and each logic tile has eight cells.
use Rattle.std.specs.Prelude.{ℕ, ◌+◌, ◌-◌, ◌*◌, ◌/◌, nat_lt, ◌==◌, if◌then◌else◌}
use Rattle.plane_map.specs.Layout.{grid_width, grid_height, ram_column, last_x}
use Rattle.plane_map.specs.declared.device.DeviceName.{DeviceName}

-- ---- how many there are

-- how many columns of tiles are logic: all but the two edges and the two RAM columns
abbrev pub logic_columns : DeviceName → ℕ
logic_columns device = grid_width device - 4

-- how many rows of tiles are between the top and the bottom edge
abbrev pub inner_rows : DeviceName → ℕ
inner_rows device = grid_height device - 2

-- all logic cells
abbrev pub cells : DeviceName → ℕ
cells device = 8 * (logic_columns device * inner_rows device)

-- all RAMs: two in every other row
abbrev pub rams : DeviceName → ℕ
rams device = inner_rows device

-- all nets
abbrev pub nets : DeviceName → ℕ
nets device = 2 + 2 * cells device + 17 * rams device

-- ---- numbers by place

-- how many logic columns are to the left of an inner column
abbrev pub logic_to_left : DeviceName → ℕ → ℕ
logic_to_left device x =
    x - 1 - (if nat_lt (ram_column device) x then 1 else 0) - (if nat_lt (last_x device - ram_column device) x then 1 else 0)

-- the number of the logic tile at (x, y)
abbrev pub logic_number : DeviceName → ℕ → ℕ → ℕ
logic_number device x y = logic_columns device * (y - 1) + logic_to_left device x

-- the number of cell i of the logic tile at (x, y)
abbrev pub cell_number : DeviceName → ℕ → ℕ → ℕ → ℕ
cell_number device x y i = 8 * logic_number device x y + i

-- the number of the RAM whose lower tile is at (x, y), in an odd row
abbrev pub ram_number : DeviceName → ℕ → ℕ → ℕ
ram_number device x y = y - 1 + (if x == ram_column device then 0 else 1)

-- ---- nets

-- the clock, which the global net 0 distributes
abbrev pub clock_net : ℕ
clock_net = 0

-- the input pin
abbrev pub input_net : ℕ
input_net = 1

-- the output of cell j; the first of them are also the inputs of the RAMs
abbrev pub out_net : ℕ → ℕ
out_net j = 2 + j

-- the input in_0 of cell j
abbrev pub in_0_net : DeviceName → ℕ → ℕ
in_0_net device j = 2 + cells device + j

-- bit a of the addresses of RAM r
abbrev pub address_net : ℕ → ℕ → ℕ
address_net r a = 2 + 8 * r + a

-- bit b of the write data of RAM r
abbrev pub write_net : ℕ → ℕ → ℕ
write_net r b = 2 + 16 * r + b

-- bit b of the read data of RAM r
abbrev pub read_net : DeviceName → ℕ → ℕ → ℕ
read_net device r b = 2 + 2 * cells device + 16 * r + b

-- the input in_3 of cell r, which RAM r drives
abbrev pub in_3_net : DeviceName → ℕ → ℕ
in_3_net device r = 2 + 2 * cells device + 16 * rams device + r

-- the output of the last cell, which is also the read enable of each RAM and the first output pin
abbrev pub read_enable_net : DeviceName → ℕ
read_enable_net device = cells device + 1

-- the output of the last cell but one, which is also the write enable of each RAM
abbrev pub write_enable_net : DeviceName → ℕ
write_enable_net device = cells device

-- the output of the cell in the middle, which is also the second output pin
abbrev pub middle_net : DeviceName → ℕ
middle_net device = 2 + cells device / 2

-- How much room the text of a place of the grid needs at most.
use Rattle.std.specs.Prelude.{ℕ, ◌+◌, ◌*◌}
use Rattle.plane_map.specs.Layout.{max_side}

-- a tile: a statement of at most 34 bytes, and sixteen rows of at most 65, with the ends of their lines
abbrev pub tile_room : ℕ
tile_room = 34 + 16 * 65

-- the contents of a RAM: a statement of at most 32 bytes, and sixteen lines of 65
abbrev pub ram_room : ℕ
ram_room = 32 + 16 * 65

-- a place of the grid: a tile, and perhaps the contents of a RAM
abbrev pub place_room : ℕ
place_room = tile_room + ram_room

-- a row of the grid
abbrev pub row_room : ℕ
row_room = max_side * place_room

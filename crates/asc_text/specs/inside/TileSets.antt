-- Which tiles of a grid have been named: a flag for each tile of the largest device's grid, row by row.
use Rattle.std.specs.Prelude.{ℕ, ◌+◌, ◌*◌, Bool, false, List, get_or}
use Rattle.plane_map.specs.Layout.{max_side}

-- whether the tile at a place of the grid was named
abbrev pub has_tile : List Bool → ℕ → ℕ → Bool
has_tile flags x y = get_or flags (max_side * y + x) false

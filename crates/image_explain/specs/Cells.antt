-- Where the logic cells of a database are among its functions. Only contracts within this crate use this.
use Rattle.std.specs.Prelude.{ℕ, List, [], ◌∷◌, map, slice_get, Option, None, Some}
use Rattle.plane_map.specs.declared.tile.RowCol.{RowCol}
use Rattle.plane_map.specs.declared.tile.TileKind.TheVariants.{Logic}
use Rattle.chipdb_lines.specs.Items.{FunctionLine}
use Rattle.chipdb_reader.specs.Lookups.{function_place}
use Rattle.fabric_model.specs.Cells.{bits_of_line, cell_name}

-- the indexes of the first functions with the names of cells 0 to 7
unfoldable pub places_of_cells : List FunctionLine → List (Option ℕ)
places_of_cells functions = map (λ i. function_place Logic (cell_name i) functions) (0 ∷ 1 ∷ 2 ∷ 3 ∷ 4 ∷ 5 ∷ 6 ∷ 7 ∷ [])

-- the bits of the function at an index; none if there is no index
abbrev pub bits_at_place : List FunctionLine → Option ℕ → List RowCol
bits_at_place functions None = []
bits_at_place functions (Some place) = bits_of_line (slice_get functions place)

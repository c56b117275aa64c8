-- The bits of a cell by the place of its function.
use Rattle.std.proofs.Common.{◌≡◌, ℕ, zero, suc, ◌<◌, refl, sym, ap, arith}
use Rattle.std.specs.Prelude.{List, find, get_or, position, Option, Some, None}
use Rattle.plane_map.specs.declared.tile.TileKind.TheVariants.{Logic}
use Rattle.chipdb_lines.specs.Items.{FunctionLine}
use Rattle.chipdb_reader.specs.Database.{Database}
use Rattle.chipdb_reader.specs.Lookups.{function_place, is_function}
use Rattle.fabric_model.specs.Cells.{bits_of_line, cell_name, cell_places}
use Rattle.fabric_model.proofs.Listed.{find-at_position, find-no_position}
use Rattle.image_explain.specs.Cells.{bits_at_place, places_of_cells}

by-found : (functions : List FunctionLine) (name : List ℕ) (place : Option ℕ) → position (is_function Logic name) functions ≡ place → bits_at_place functions place ≡ bits_of_line (find (is_function Logic name) functions)
by-found functions name None found = sym (ap bits_of_line (find-no_position (is_function Logic name) functions found))
by-found functions name (Some place) found = sym (ap bits_of_line (find-at_position (is_function Logic name) functions place found))

by-place : (functions : List FunctionLine) (name : List ℕ) → bits_at_place functions (function_place Logic name functions) ≡ bits_of_line (find (is_function Logic name) functions)
unfolding function_place
by-place functions name = by-found functions name (position (is_function Logic name) functions) refl

-- the bits of the function at a cell's index are the bits of the cell
pub bits-of-cell : (database : Database) (i : ℕ) → i < 8 → bits_at_place database.functions (get_or (places_of_cells database.functions) i None) ≡ cell_places database i
unfolding places_of_cells cell_places
bits-of-cell database zero below = by-place database.functions (cell_name 0)
bits-of-cell database (suc zero) below = by-place database.functions (cell_name 1)
bits-of-cell database (suc (suc zero)) below = by-place database.functions (cell_name 2)
bits-of-cell database (suc (suc (suc zero))) below = by-place database.functions (cell_name 3)
bits-of-cell database (suc (suc (suc (suc zero)))) below = by-place database.functions (cell_name 4)
bits-of-cell database (suc (suc (suc (suc (suc zero))))) below = by-place database.functions (cell_name 5)
bits-of-cell database (suc (suc (suc (suc (suc (suc zero)))))) below = by-place database.functions (cell_name 6)
bits-of-cell database (suc (suc (suc (suc (suc (suc (suc zero))))))) below = by-place database.functions (cell_name 7)
bits-of-cell database (suc (suc (suc (suc (suc (suc (suc (suc i)))))))) below = absurd (omega arith)

use Rattle.std.proofs.Common.{◌≡◌, ◌++◌}
use Rattle.index_search.specs.Places.{gathered_below}
use Rattle.ice_image.specs.Either.{configuration_of}
use Rattle.chipdb_reader.specs.Kept.{database_in}
use Rattle.fabric_model.specs.Cells.{cell_bits}
use Rattle.image_explain.specs.Items.{cell_item}
use Rattle.image_explain.proofs.cells.push_logic_cells.Given as goal

abbrev pub invariant-loop-i : goal.invariant-loop-i
invariant-loop-i l =
    l.items.items ≡ l.initial.items.items ++ gathered_below l.i (λ i. cell_item i (cell_bits (database_in l.db) (configuration_of l.image) l.at.x l.at.y i))

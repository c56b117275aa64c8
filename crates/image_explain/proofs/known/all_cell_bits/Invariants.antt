use Rattle.std.specs.List.{list_any}
use Rattle.index_search.specs.Places.{any_below}
use Rattle.chipdb_reader.specs.Kept.{database_in}
use Rattle.fabric_model.specs.Cells.{cell_places}
use Rattle.image_explain.specs.Inside.{Knows}
use Rattle.image_explain.specs.Items.{is_bit}
use Rattle.image_explain.proofs.known.all_cell_bits.Given as goal

abbrev pub invariant-loop-i : goal.invariant-loop-i
invariant-loop-i l = Knows (λ row col. any_below l.i (λ i. list_any (is_bit row col) (cell_places (database_in l.db) i))) l.known

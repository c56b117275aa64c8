use Rattle.std.proofs.Common.{◌≡◌, ◌++◌}
use Rattle.index_search.specs.Places.{gathered_below}
use Rattle.ice_image.specs.Either.{configuration_of}
use Rattle.chipdb_reader.specs.Kept.{database_in}
use Rattle.fabric_model.specs.Cells.{used_cell}
use Rattle.fabric_parts.proofs.logic.gather.append_cells.Given as goal

abbrev pub invariant-loop-i : goal.invariant-loop-i
invariant-loop-i l = l.lcs.items ≡ l.initial.lcs.items ++ gathered_below l.i (used_cell (database_in l.db) (configuration_of l.image) l.x l.y)

use Rattle.std.proofs.Common.{◌≡◌, false, ◌&&◌, ◌==◌}
use Rattle.std.specs.Prelude.{slice_index}
use Rattle.index_search.specs.Places.{any_below}
use Rattle.fabric_model.specs.Cells.{entry_bits}
use Rattle.ice_gen.specs.Image.{is_entry}
use Rattle.ice_gen.proofs.cells.is_cell_bit.Given as goal

abbrev pub invariant-loop-k : goal.invariant-loop-k
invariant-loop-k l = any_below l.k (λ k. (slice_index entry_bits k == l.place) && is_entry l.lut k) ≡ false

use Rattle.std.proofs.Common.{◌≡◌, ℕ, ◌/◌, ◌%◌, ◌<◌, false, get_or, length}
use Rattle.bram_replace.specs.ReadModes.{column_in, place_in}
use Rattle.bram_replace.specs.Rams.{listed}
use Rattle.bram_replace.proofs.order.from_columns.Given as goal

abbrev pub invariant-loop-index : goal.invariant-loop-index
invariant-loop-index l = record {
  size : length l.bits ≡ 4096;
  filled : (k : ℕ) → k < l.index → get_or l.bits k false ≡ listed l.columns (place_in l.mode (k / 16) (k % 16)) (column_in l.mode (k / 16) (k % 16));
}

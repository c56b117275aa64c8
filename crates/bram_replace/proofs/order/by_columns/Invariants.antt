use Rattle.std.proofs.Common.{◌≡◌, ℕ, ◌/◌, ◌%◌, ◌<◌, false, get_or, length}
use Rattle.bram_replace.specs.ReadModes.{by_columns}
use Rattle.bram_replace.specs.Rams.{listed}
use Rattle.bram_replace.proofs.order.by_columns.Given as goal

abbrev pub invariant-loop-index : goal.invariant-loop-index
invariant-loop-index l = record {
  size : length l.columns ≡ 4096;
  filled : (k : ℕ) → k < l.index → get_or l.columns k false ≡ by_columns l.mode (listed l.bits) (k / 16) (k % 16);
}

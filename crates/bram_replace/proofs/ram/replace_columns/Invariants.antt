use Rattle.std.proofs.Common.{◌≡◌, ℕ, ◌+◌, ◌^◌, ◌<◌, length, get_or}
use Rattle.std.specs.Prelude.{nat_lt, if◌then◌else◌}
use Rattle.index_search.specs.Places.{gathered_below}
use Rattle.bram_replace.specs.Columns.{column_count}
use Rattle.bram_replace.specs.Replaced.{column_found}
use Rattle.bram_replace.specs.Rams.{columns_after, listed}
use Rattle.bram_replace.proofs.ram.replace_columns.Given as goal

abbrev pub invariant-loop-bit : goal.invariant-loop-bit
invariant-loop-bit l = record {
  bits : (word bit : ℕ) → word < 256 → bit < 16 → listed l.bits word bit
      ≡ (if nat_lt bit l.bit then columns_after l.columns.file.now l.to (listed l.fn.bits) word bit else listed l.fn.bits word bit);
  counts : (column : ℕ) → column < column_count l.columns.file.now → get_or l.found column 0
      ≡ get_or l.fn.found column 0 + length (gathered_below l.bit (column_found l.columns.file.now (listed l.fn.bits) column));
  room : (column : ℕ) → get_or l.found column 0 < 2 ^ 31 + l.bit;
}

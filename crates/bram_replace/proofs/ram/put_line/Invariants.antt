use Rattle.std.proofs.Common.{◌≡◌, ℕ, ◌+◌, ◌*◌, ◌<◌}
use Rattle.asc_text.specs.Rows.{memory_bit}
use Rattle.bram_replace.specs.Rams.{AreAlike, listed}
use Rattle.bram_replace.proofs.ram.put_line.Given as goal

abbrev pub invariant-loop-index : goal.invariant-loop-index
invariant-loop-index l = record {
  there : (index bit : ℕ) → index < l.index → bit < 16 → listed l.bits (16 * l.row + index) bit ≡ memory_bit l.line index bit;
  before : AreAlike (16 * l.row) (listed l.bits) (listed l.fn.bits);
}

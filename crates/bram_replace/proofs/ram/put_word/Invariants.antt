use Rattle.std.proofs.Common.{◌≡◌, ℕ, ◌/◌, ◌%◌, ◌^◌, ◌<◌, ◌==◌}
use Rattle.bram_replace.specs.Rams.{AreAlike, listed}
use Rattle.bram_replace.proofs.ram.put_word.Given as goal

abbrev pub invariant-loop-bit : goal.invariant-loop-bit
invariant-loop-bit l = record {
  left : l.rest ≡ l.value / 2 ^ l.bit;
  there : (bit : ℕ) → bit < l.bit → listed l.bits l.word bit ≡ (l.value / 2 ^ bit % 2 == 1);
  before : AreAlike l.word (listed l.bits) (listed l.fn.bits);
}

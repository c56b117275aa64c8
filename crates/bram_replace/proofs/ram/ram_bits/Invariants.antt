use Rattle.std.proofs.Common.{◌≡◌, ◌*◌, drop}
use Rattle.text_lines.specs.Lines.{lines_of}
use Rattle.bram_replace.specs.Replaced.{ram_bits}
use Rattle.bram_replace.specs.Rams.{AreAlike, listed}
use Rattle.bram_replace.proofs.ram.ram_bits.Given as goal

abbrev pub invariant-loop-row : goal.invariant-loop-row
invariant-loop-row l = record {
  lines : lines_of l.left ≡ drop l.row (lines_of l.text);
  there : AreAlike (16 * l.row) (listed l.bits) (ram_bits (lines_of l.text));
}

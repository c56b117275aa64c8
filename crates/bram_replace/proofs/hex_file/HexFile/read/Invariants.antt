use Rattle.std.proofs.Common.{◌≡◌, ◌+◌, ◌*◌, ◌≤◌, length, drop}
use Rattle.text_lines.specs.Lines.{lines_of}
use Rattle.bram_replace.proofs.HexLines.{ReadSoFar}
use Rattle.bram_replace.proofs.hex_file.HexFile.read.Given as goal

abbrev pub invariant-loop-line : goal.invariant-loop-line
invariant-loop-line l = record {
  lines : lines_of l.left ≡ drop l.count (lines_of l.fn.bytes);
  within : l.count ≤ length (lines_of l.fn.bytes);
  short : l.count + length l.left ≤ length l.fn.bytes;
  read : ReadSoFar l.fn.bytes l.count l.words.digits l.words.bits.items;
  room : length l.words.bits.items + 4 * length l.left ≤ 4 * length l.fn.bytes;
}

abbrev pub decreases-loop-line : goal.decreases-loop-line
decreases-loop-line l = length l.left

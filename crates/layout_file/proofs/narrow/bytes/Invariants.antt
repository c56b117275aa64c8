use Rattle.std.proofs.Common.{◌≡◌, length, take}
use Rattle.layout_file.proofs.narrow.bytes.Given as goal

abbrev pub invariant-loop-place : goal.invariant-loop-place
invariant-loop-place g l = record {
  size : length l.bytes ≡ g.row.N;
  filled : take l.place l.bytes ≡ take l.place l.fn.numbers;
}

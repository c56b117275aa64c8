use Rattle.std.proofs.Common.{◌≡◌, ◌++◌, ◌-◌, ◌≤◌, length, drop, filter}
use Rattle.bin_stream.specs.Front.{pieces_of, is_comment_line}
use Rattle.bin_stream.proofs.reading.front.lines_of.Given as goal

abbrev pub invariant-loop-comment : goal.invariant-loop-comment
invariant-loop-comment l = record {
  within : l.start ≤ length l.bytes;
  lines_are : filter is_comment_line (pieces_of l.bytes) ≡ l.comment ++ filter is_comment_line (pieces_of (drop l.start l.bytes));
}

abbrev pub decreases-loop-comment : goal.decreases-loop-comment
decreases-loop-comment l = length l.bytes - l.start

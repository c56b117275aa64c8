use Rattle.std.proofs.Common.{◌≡◌, length}
use Rattle.chipdb_lines.specs.Words.{words_in}
use Rattle.chipdb_lines.proofs.TableBits.{Added}
use Rattle.chipdb_lines.proofs.bits.push_each.Given as goal

abbrev pub invariant-loop-next : goal.invariant-loop-next
invariant-loop-next l = record {
  added : Added l.columns l.fn.bits.items l.bits.items (words_in l.fn.words) (words_in l.left);
  start_is : l.start ≡ length l.fn.bits.items;
}

abbrev pub decreases-loop-next : goal.decreases-loop-next
decreases-loop-next l = length l.left

use Rattle.std.proofs.Common.{◌≤◌, length, drop}
use Rattle.chipdb_lines.specs.Kept.{WritesValues}
use Rattle.chipdb_lines.proofs.links.values_in.Given as goal

abbrev pub invariant-loop-left : goal.invariant-loop-left
invariant-loop-left l = record {
  within : l.left ≤ length l.word;
  written : WritesValues (drop l.left l.word) l.values;
}

abbrev pub decreases-loop-left : goal.decreases-loop-left
decreases-loop-left l = l.left

use Rattle.std.proofs.Common.{◌≡◌, ℕ, List, take}
use Rattle.image_explain.specs.Inside.{lists_of}
use Rattle.image_diff.specs.Differences.{is_among}
use Rattle.image_diff.proofs.line_set.LineSet.of.Given as goal

abbrev pub invariant-loop-line : goal.invariant-loop-line
invariant-loop-line l = (other : List ℕ) → is_among l.set other ≡ is_among (take l.line-index (lists_of l.lines)) other

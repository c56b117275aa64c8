use Rattle.std.proofs.Common.{◌≡◌, ◌≤◌, length, drop}
use Rattle.text_lines.specs.Pieces.{ended_lines}
use Rattle.text_lines.proofs.pieces.length_of_whole_lines.Given as goal

abbrev pub invariant-loop-len : goal.invariant-loop-len
invariant-loop-len l = (l.len ≤ length l.text) × (ended_lines (drop l.len l.text) ≡ 0)

abbrev pub decreases-loop-len : goal.decreases-loop-len
decreases-loop-len l = l.len

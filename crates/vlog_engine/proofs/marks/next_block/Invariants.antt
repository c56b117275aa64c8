use Rattle.std.proofs.Common.{◌≡◌, ◌<◌, ◌≤◌, ◌-◌, ℕ, get_or}
use Rattle.vlog_engine.proofs.marks.next_block.Given as goal

abbrev pub invariant-loop-block : goal.invariant-loop-block
invariant-loop-block l = record {
  past : l.from ≤ l.block;
  last : l.block ≤ l.end;
  none : (block : ℕ) → l.from ≤ block → block < l.block → get_or l.marks block 0 ≡ 0;
}

abbrev pub decreases-loop-block : goal.decreases-loop-block
decreases-loop-block l = l.end - l.block

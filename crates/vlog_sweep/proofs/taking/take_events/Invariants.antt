use Rattle.std.proofs.Common.{◌≡◌, ◌<◌, ◌≤◌, ℕ, get_or, length}
use Rattle.vlog_sweep.specs.Strands.{turned}
use Rattle.vlog_sweep.specs.declared.strand.Strand.{Strand}
use Rattle.vlog_sweep.proofs.taking.take_events.Given as goal

abbrev pub invariant-loop-lane : goal.invariant-loop-lane
invariant-loop-lane l = record {
  done : (k : ℕ) (d : Strand) → k < l.lane → k < length l.initial.strands → get_or l.strands k d ≡ turned 0 l.active k (get_or l.initial.strands k d);
  ahead : (k : ℕ) (d : Strand) → l.lane ≤ k → get_or l.strands k d ≡ get_or l.initial.strands k d;
}

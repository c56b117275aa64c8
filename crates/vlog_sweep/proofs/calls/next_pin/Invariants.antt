use Rattle.std.proofs.Common.{◌≡◌, ◌<◌, ◌≤◌, ℕ, None, Some, get_or, true}
use Rattle.vlog_sweep.specs.Strands.{is_on, left_of, next_of}
use Rattle.vlog_sweep.specs.declared.strand.Strand.{Strand}
use Rattle.vlog_sweep.proofs.calls.next_pin.Given as goal

abbrev pub invariant-loop-strand : goal.invariant-loop-strand
invariant-loop-strand l = record {
  none : l.pin ≡ None → l.most ≡ 0;
  most : (k : ℕ) (d : Strand) → k < l.strand-index → left_of (get_or l.strands k d) ≤ l.most;
  some : (pin : ℕ) → l.pin ≡ Some pin → (k : ℕ) × (k < l.strand-index) × ((d : Strand) → is_on pin (next_of (get_or l.strands k d)) ≡ true);
}

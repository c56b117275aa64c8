use Rattle.std.proofs.Common.{◌≡◌, ◌<◌, ◌≤◌, ◌+◌, ℕ, List, cond, false, get_or, length, true}
use Rattle.vlog_module.specs.Parts.{Parts}
use Rattle.vlog_semantics.specs.Values.{bit_of}
use Rattle.vlog_run.specs.Text.{entry_line}
use Rattle.vlog_sweep.specs.Strands.{Stands, line_of, next_entry, stepped}
use Rattle.vlog_sweep.specs.declared.strand.Strand.{Strand}
use Rattle.vlog_sweep.proofs.turns.take_turns.Given as goal

abbrev pub invariant-loop-lane : goal.invariant-loop-lane
invariant-loop-lane l = record {
  done : (k : ℕ) (d : Strand) → k < l.lane → k < length l.initial.strands
      → get_or l.strands k d ≡ cond (bit_of l.active k) (stepped (length l.outputs + 1) (get_or l.initial.strands k d)) (get_or l.initial.strands k d);
  ahead : (k : ℕ) (d : Strand) → l.lane ≤ k → get_or l.strands k d ≡ get_or l.initial.strands k d;
  text : (m : Parts) (line : List ℕ) → length line ≡ length l.outputs + 1 → Stands m line l.initial.strands l.initial.text
      → ((k : ℕ) (d : Strand) → k < length l.initial.strands → bit_of l.active k ≡ true → line_of l.outputs k ≡ entry_line false (next_entry m (get_or l.initial.strands k d)))
      → Stands m line l.strands l.text;
}

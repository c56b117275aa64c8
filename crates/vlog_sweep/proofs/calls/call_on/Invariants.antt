use Rattle.std.proofs.Common.{◌≡◌, drop}
use Rattle.std.specs.Prelude.{map}
use Rattle.vlog_semantics.specs.Values.{number_of}
use Rattle.vlog_sweep.specs.Strands.{has_bit, is_on, next_of}
use Rattle.vlog_sweep.proofs.calls.call_on.Given as goal

abbrev pub invariant-loop-lane : goal.invariant-loop-lane
invariant-loop-lane l = record {
  active : l.active ≡ number_of (map (λ strand. is_on l.pin (next_of strand)) (drop l.lane l.strands));
  bits : l.bits ≡ number_of (map (λ strand. has_bit (next_of strand)) (drop l.lane l.strands));
}

use Rattle.std.proofs.Common.{◌≡◌, ◌+◌, ◌++◌, drop, map}
use Rattle.text_lines.specs.Written.{text_of}
use Rattle.vlog_waves.specs.Variables.Value.{one_bit}
use Rattle.vlog_waves.specs.Waves.{value_lines}
use Rattle.vlog_waves.proofs.starting.push_bits.Given as goal

abbrev pub invariant-loop-place : goal.invariant-loop-place
invariant-loop-place l =
    l.text.items ++ text_of (value_lines (l.number + l.place) (map one_bit (drop l.place l.bits)))
    ≡ l.initial.text.items ++ text_of (value_lines l.number (map one_bit l.bits))

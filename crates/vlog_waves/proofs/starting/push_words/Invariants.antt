use Rattle.std.proofs.Common.{◌≡◌, ◌+◌, ◌++◌, drop, map}
use Rattle.text_lines.specs.Written.{text_of}
use Rattle.vlog_waves.specs.Variables.Value.{sixteen_bits}
use Rattle.vlog_waves.specs.Waves.{value_lines}
use Rattle.vlog_waves.proofs.starting.push_words.Given as goal

abbrev pub invariant-loop-place : goal.invariant-loop-place
invariant-loop-place l =
    l.text.items ++ text_of (value_lines (l.number + l.place) (map sixteen_bits (drop l.place l.words)))
    ≡ l.initial.text.items ++ text_of (value_lines l.number (map sixteen_bits l.words))

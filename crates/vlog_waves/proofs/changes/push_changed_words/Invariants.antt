use Rattle.std.proofs.Common.{◌≡◌, ◌+◌, ◌≤◌, ◌++◌, drop, map, vec_capacity}
use Rattle.text_lines.specs.Written.{text_of}
use Rattle.vlog_waves.specs.Variables.Value.{sixteen_bits}
use Rattle.vlog_waves.specs.Waves.{changed_lines}
use Rattle.vlog_waves.proofs.changes.push_changed_words.Given as goal

abbrev pub invariant-loop-place : goal.invariant-loop-place
invariant-loop-place l = record {
  made : l.text.items ++ text_of (changed_lines (l.number + l.place) (map sixteen_bits (drop l.place l.before)) (map sixteen_bits (drop l.place l.after)))
      ≡ l.initial.text.items ++ text_of (changed_lines l.number (map sixteen_bits l.before) (map sixteen_bits l.after));
  room : vec_capacity l.initial.text ≤ vec_capacity l.text;
}

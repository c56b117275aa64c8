use Rattle.std.proofs.Common.{◌≡◌, ◌+◌, ◌-◌, ◌≤◌, ◌++◌, vec_capacity, vec_len}
use Rattle.vlog_waves.specs.Waves.{word_digits}
use Rattle.vlog_waves.proofs.lines.push_digits.Given as goal

abbrev pub invariant-loop-place : goal.invariant-loop-place
invariant-loop-place l = record {
  made : l.text.items ++ word_digits (16 - l.place) l.word ≡ l.initial.text.items ++ word_digits 16 l.word;
  long : vec_len l.text ≡ vec_len l.initial.text + l.place;
  room : vec_capacity l.initial.text ≤ vec_capacity l.text;
}

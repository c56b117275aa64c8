use Rattle.std.proofs.Common.{◌≡◌, ◌+◌, ◌*◌, ◌≤◌, ◌++◌, flat_map, take, vec_capacity, vec_len}
use Rattle.vlog_run.specs.Text.{word_text}
use Rattle.vlog_run.proofs.text.push_words.Given as goal

abbrev pub invariant-loop-word : goal.invariant-loop-word
invariant-loop-word l = record {
  made : l.text.items ≡ l.initial.text.items ++ flat_map word_text (take l.word-index l.words);
  long : vec_len l.text ≡ vec_len l.initial.text + 5 * l.word-index;
  room : vec_capacity l.initial.text ≤ vec_capacity l.text;
}

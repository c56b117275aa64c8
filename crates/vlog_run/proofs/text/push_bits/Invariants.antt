use Rattle.std.proofs.Common.{◌≡◌, ◌+◌, ◌≤◌, ◌++◌, take, vec_capacity, vec_len}
use Rattle.std.specs.Prelude.{map}
use Rattle.vlog_run.specs.Text.{bit_digit}
use Rattle.vlog_run.proofs.text.push_bits.Given as goal

abbrev pub invariant-loop-bit : goal.invariant-loop-bit
invariant-loop-bit l = record {
  made : l.text.items ≡ l.initial.text.items ++ map bit_digit (take l.bit-index l.bits);
  long : vec_len l.text ≡ vec_len l.initial.text + l.bit-index;
  room : vec_capacity l.initial.text ≤ vec_capacity l.text;
}

use Rattle.std.proofs.Common.{◌≡◌, ◌<◌, ◌^◌, take}
use Rattle.text_lines.specs.Words.{digits_value}
use Rattle.seeds.proofs.digits_value.Given as goal

abbrev pub invariant-loop-digit : goal.invariant-loop-digit
invariant-loop-digit l = record {
  value_is : l.value ≡ digits_value (take l.digit-index l.digits);
  small : l.value < 10 ^ l.digit-index;
}

use Rattle.std.proofs.Common.{◌-◌, length}
use Rattle.text_lines.specs.Numbers.{HasDigits}
use Rattle.text_lines.proofs.decimal.leading_number.Given as goal

abbrev pub invariant-loop-digits : goal.invariant-loop-digits
invariant-loop-digits l = HasDigits l.text l.digits l.number

abbrev pub decreases-loop-digits : goal.decreases-loop-digits
decreases-loop-digits l = length l.text - l.digits

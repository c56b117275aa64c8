use Rattle.std.proofs.Common.{refl, arith}
use Rattle.text_lines.proofs.Leading.{leads-before, leads-found}
use Rattle.text_lines.proofs.decimal.number_before.Goals as goal
use Rattle.text_lines.proofs.decimal.number_before.Goals.{else-digits-gt0-via-then-digits-gt0+then-digits-text+else-text-digits, else-digits-gt0-via-then-digits-gt0+else-digits-text, else-digits-gt0-via-else-digits-gt0}

pub returns-then-text-digits-clause-is : goal.returns-then-text-digits-clause-is
returns-then-text-digits-clause-is c =
    let leading = c.leading_number-number.result in
    leads-before c.args.end c.args.text.now leading.digits leading.number _ c.leading_number-number.ensures c.if-digits-gt0.true c.if-digits-text.true c.if-text-digits.true refl

pub returns-else-digits-gt0-clause-is : goal.returns-else-digits-gt0-clause-is
returns-else-digits-gt0-clause-is c = λ other number rest starts.
    let leading = c.leading_number-number.result in
    let found = leads-found c.args.end c.args.text.now leading.digits leading.number number rest c.leading_number-number.ensures other starts in
    elim c.else-digits-gt0.branch [
      | else-digits-gt0-via-then-digits-gt0+then-digits-text+else-text-digits w ↦ w.if-text-digits.false found.2
      | else-digits-gt0-via-then-digits-gt0+else-digits-text w ↦ omega (arith, w.if-digits-text.false, found.1)
      | else-digits-gt0-via-else-digits-gt0 w ↦ omega (arith, w.if-digits-gt0.false, found.0)
    ]

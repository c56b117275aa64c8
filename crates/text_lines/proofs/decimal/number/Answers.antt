use Rattle.std.proofs.Common.{◌≡◌, false, ◌&&◌, length, sym, arith}
use Rattle.std.specs.Prelude.{nat_lt, ◌==◌}
use Rattle.std.proofs.lemmas.Bool.Decides.{nat_tests}
use Rattle.text_lines.proofs.Leading.{leads-word, leads-other}
use Rattle.text_lines.proofs.decimal.number.Goals as goal
use Rattle.text_lines.proofs.decimal.number.Goals.{else-digits-gt0-via-then-digits-gt0+else-digits-word, else-digits-gt0-via-else-digits-gt0}

pub returns-then-digits-word-clause-is : goal.returns-then-digits-word-clause-is
returns-then-digits-word-clause-is c =
    let leading = c.leading_number-number.result in
    sym (leads-word c.args.word.now leading.digits leading.number c.leading_number-number.ensures c.if-digits-gt0.true c.if-digits-word.true)

pub returns-else-digits-gt0-clause-is : goal.returns-else-digits-gt0-clause-is
returns-else-digits-gt0-clause-is c =
    let leading = c.leading_number-number.result in
    let word = c.args.word.now in
    let fails : (nat_lt 0 leading.digits && (leading.digits == length word)) ≡ false = elim c.else-digits-gt0.branch [
      | else-digits-gt0-via-then-digits-gt0+else-digits-word w ↦ grind (arith, nat_tests, w.if-digits-gt0.true, w.if-digits-word.false)
      | else-digits-gt0-via-else-digits-gt0 w ↦ grind (arith, nat_tests, w.if-digits-gt0.false)
    ] in
    sym (leads-other word leading.digits leading.number c.leading_number-number.ensures fails)

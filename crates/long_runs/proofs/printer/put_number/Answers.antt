use Rattle.std.proofs.Common.{◌≡◌, ◌++◌, ap, arith, length, length-append, subst}
use Rattle.std.specs.Prelude.{OnOk, decimal}
use Rattle.long_runs.proofs.Printed.{decimal-short, ok-where}
use Rattle.long_runs.proofs.printer.put_number.Goals as goal

pub unwrap-requires : goal.unwrap-requires
unwrap-requires c =
    let short = decimal-short c.args.number c.ranges.number.fits in
    ok-where c.push_number.result c.push_number.ensures.full (λ full. omega (arith, full, short, c.requires))

pub unwrap-requires-2 : goal.unwrap-requires-2
unwrap-requires-2 c =
    let text = c.args.text.now in
    let digits = decimal c.args.number in
    let short = decimal-short c.args.number c.ranges.number.fits in
    let made = subst (λ result. OnOk result (c.push_number.new.text.items ≡ text.items ++ digits)) c.unwrap.ensures c.push_number.ensures.text in
    ok-where c.push_byte.result c.push_byte.ensures.full
    (λ full. omega (arith, full, short, c.requires, ap length made, length-append text.items digits, text.ok.0, c.push_number.new.text.ok.0, c.push_number.ensures.room))

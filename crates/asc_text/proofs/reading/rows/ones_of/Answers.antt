use Rattle.std.proofs.Common.{◌≡◌, ◌==◌, ◌∙◌, sym, false, length, arith}
use Rattle.std.proofs.lemmas.Bool.Decides.{nat_tests}
use Rattle.asc_text.proofs.RowNumbers.{row_number-bit, not_row-length, is_row-bits}
use Rattle.asc_text.proofs.reading.rows.ones_of.Goals as goal

pub returns-then-line-width : goal.returns-then-line-width
returns-then-line-width c =
    let other : (length c.args.line.now == c.args.width) ≡ false = grind (arith, nat_tests) in
    not_row-length c.args.width c.args.line.now other

pub returns-then-row : goal.returns-then-row
returns-then-row c =
    let wide : length c.args.line.now ≡ c.args.width = grind (arith, nat_tests) in (
      is_row-bits c.args.width c.args.line.now c.row_bits_of-row.result.are_bits wide c.row_bits_of-row.ensures.bits ∙ c.if-row.true,
      row_number-bit c.args.line.now c.row_bits_of-row.result.ones (sym c.row_bits_of-row.ensures.bits ∙ c.if-row.true) c.row_bits_of-row.ensures.ones,
    )

pub returns-else-row : goal.returns-else-row
returns-else-row c =
    let wide : length c.args.line.now ≡ c.args.width = grind (arith, nat_tests) in
    is_row-bits c.args.width c.args.line.now c.row_bits_of-row.result.are_bits wide c.row_bits_of-row.ensures.bits ∙ c.if-row.false

use Rattle.std.proofs.Common.{sym, ◌∙◌}
use Rattle.chipdb_lines.proofs.OneBit.{bit-usual}
use Rattle.chipdb_lines.proofs.bits.bit_after.Goals as goal

pub returns-then-ends_word-clause-words : goal.returns-then-ends_word-clause-words
returns-then-ends_word-clause-words c =
    bit-usual c.args.words.now c.in_ok-row.after.now c.in_ok-col.rest.now c.in_ok-row.row c.in_ok-col.col c.in_ok-row.ensures.is c.in_ok-col.ensures.is
    (sym c.ends_word.ensures ∙ c.if-ends_word.true)

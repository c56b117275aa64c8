use Rattle.std.proofs.Common.{ap, sym, ◌∙◌}
use Rattle.chipdb_lines.specs.Statements.{link_of_words}
use Rattle.chipdb_lines.proofs.Headed.{link-usual, words-after_space}
use Rattle.chipdb_lines.proofs.links.head_after_space.Goals as goal

pub returns-else-has_no_word : goal.returns-else-has_no_word
returns-else-has_no_word c = λ chip.
    ap (link_of_words chip) (words-after_space c.args.words.now)
    ∙ link-usual chip c.args.words.now c.in_ok-x.after.now c.in_ok-y.after.now c.in_ok-dst.bits.now c.in_ok-x.x c.in_ok-y.y c.in_ok-dst.dst
    c.in_ok-x.ensures.is c.in_ok-y.ensures.is c.in_ok-dst.ensures.is (sym c.has_no_word.ensures ∙ c.if-has_no_word.false)

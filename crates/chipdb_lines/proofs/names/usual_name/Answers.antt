use Rattle.std.proofs.Common.{sym, ◌∙◌}
use Rattle.chipdb_lines.proofs.Named.{name-of_words}
use Rattle.chipdb_lines.proofs.names.usual_name.Goals as goal

pub returns-then-is_one_word : goal.returns-then-is_one_word
returns-then-is_one_word c = λ net.
    name-of_words c.args.device net c.args.words.now c.in_ok-x.after.now c.in_ok-y.name.now c.in_ok-x.x c.in_ok-y.y c.in_ok-x.ensures.is c.in_ok-y.ensures.is
    (sym c.is_in_grid.ensures.inside ∙ c.if-is_in_grid.true) (sym c.is_one_word.ensures ∙ c.if-is_one_word.true)

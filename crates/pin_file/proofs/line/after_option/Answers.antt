use Rattle.std.proofs.Common.{sym, ◌∙◌}
use Rattle.text_lines.specs.declared.words.Separators.TheVariants.{Spaces}
use Rattle.text_lines.specs.Words.{words_of}
use Rattle.pin_file.specs.Lines.{takes_word}
use Rattle.pin_file.proofs.LineSteps.{option-with, option-without}
use Rattle.pin_file.proofs.line.after_option.Goals as goal

pub returns-in-None-clause-options : goal.returns-in-None-clause-options
returns-in-None-clause-options c = option-without (words_of Spaces c.args.words.now) (takes_word c.args.option.now) c.in-None.ensures.words

pub returns-in-Some-clause-options : goal.returns-in-Some-clause-options
returns-in-Some-clause-options c =
    option-with c.in-Some.field-0-0.now (words_of Spaces c.in-Some.following.now) (words_of Spaces c.args.words.now) (takes_word c.args.option.now)
    (sym c.takes_word.ensures ∙ c.if-takes_word.true) c.in-Some.ensures.words

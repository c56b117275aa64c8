use Rattle.std.proofs.Common.{sym, ◌∙◌}
use Rattle.text_lines.specs.declared.words.Separators.TheVariants.{Spaces}
use Rattle.text_lines.specs.Words.{words_of}
use Rattle.pin_file.proofs.LineSteps.{options-more, options-none, options-stopped}
use Rattle.pin_file.proofs.line.after_options.Goals as goal

pub loop-word-preserved : goal.loop-word-preserved
loop-word-preserved c =
    options-more (words_of Spaces c.loop-word.left.now) (words_of Spaces c.args.words.now) (words_of Spaces c.after_option-left.result.now) c.in-Some.word.now (words_of Spaces c.in-Some.following.now)
    c.loop-word.invariant c.in-Some.ensures.words (sym c.is_option.ensures ∙ c.if-is_option.true) c.after_option-left.ensures.options

pub returns-else-is_option : goal.returns-else-is_option
returns-else-is_option c =
    options-stopped (words_of Spaces c.loop-word.left.now) (words_of Spaces c.args.words.now) c.in-Some.word.now (words_of Spaces c.in-Some.following.now)
    c.loop-word.invariant c.in-Some.ensures.words (sym c.is_option.ensures ∙ c.if-is_option.false)

pub returns : goal.returns
returns c = options-none (words_of Spaces c.loop-word.left.now) (words_of Spaces c.args.words.now) c.loop-word.invariant c.in_default.ensures.words

use Rattle.std.proofs.Common.{sym}
use Rattle.text_lines.specs.Words.{words_of}
use Rattle.text_lines.proofs.Numbers.{no_first-nothing, no_first-word, numbers_of-number}
use Rattle.text_lines.proofs.words.split_number.Goals as goal

pub returns-in_err-word : goal.returns-in_err-word
returns-in_err-word c = rw c.from_residual.ensures (no_first-nothing (words_of c.args.separators c.args.line.now) c.in_err-word.ensures.words)

pub returns-in_err-first : goal.returns-in_err-first
returns-in_err-first c = rw c.from_residual-in_err-first.ensures (no_first-word (words_of c.args.separators c.args.line.now) (words_of c.args.separators c.in_ok-word.following.now) c.in_ok-word.word.now c.in_ok-word.ensures.words (sym c.in_err-first.ensures.is))

pub returns : goal.returns
returns c = numbers_of-number (words_of c.args.separators c.args.line.now) (words_of c.args.separators c.in_ok-word.following.now) c.in_ok-word.word.now c.in_ok-first.first c.in_ok-word.ensures.words (sym c.in_ok-first.ensures.is)

use Rattle.std.proofs.Common.{◌∷◌, []}
use Rattle.text_lines.specs.Words.{words_of}
use Rattle.text_lines.proofs.Numbers.{length-numbers_of, one_number-is}
use Rattle.text_lines.proofs.words.one_number.Goals as goal

pub returns-in_err-one_word : goal.returns-in_err-one_word
returns-in_err-one_word c = rw c.from_residual.ensures (λ x some. c.in_err-one_word.ensures (length-numbers_of (words_of c.args.separators c.args.line.now) (x ∷ []) some))

pub returns : goal.returns
returns c = one_number-is (words_of c.args.separators c.args.line.now) c.in_ok-one_word.field-0.now c.number.result c.in_ok-one_word.ensures c.number.ensures.is

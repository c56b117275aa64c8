use Rattle.std.proofs.Common.{sym, ◌∙◌}
use Rattle.text_lines.specs.declared.words.Separators.TheVariants.{Spaces}
use Rattle.text_lines.specs.Words.{numbers_of, words_of}
use Rattle.layout_file.proofs.ReadNumbers.{numbers-next, numbers-stopped, numbers-many, numbers-all}
use Rattle.layout_file.proofs.line.number_list.Goals as goal

pub returns-in_default-number : goal.returns-in_default-number
returns-in_default-number c =
    numbers-stopped (numbers_of (words_of Spaces c.args.words.now)) c.loop-word.numbers c.in-Some.word.now c.loop-word.left.now c.in-Some.following.now
    c.loop-word.invariant c.in-Some.ensures.words (sym c.in_default-number.is ∙ c.number.ensures.is)

pub returns-then-is_full : goal.returns-then-is_full
returns-then-is_full c =
    numbers-many (numbers_of (words_of Spaces c.args.words.now)) c.loop-word.numbers c.in-Some.word.now c.loop-word.left.now c.in-Some.following.now c.in-Some-number.value
    c.loop-word.invariant c.in-Some.ensures.words c.in-Some-number.ensures.is (sym c.is_full.ensures ∙ c.if-is_full.true)

pub loop-word-preserved : goal.loop-word-preserved
loop-word-preserved c =
    let next = numbers-next (numbers_of (words_of Spaces c.args.words.now)) c.loop-word.numbers c.in-Some.word.now c.loop-word.left.now c.in-Some.following.now c.in-Some-number.value
    c.loop-word.invariant c.in-Some.ensures.words c.in-Some-number.ensures.is in
    rw c.push.ensures next

pub returns : goal.returns
returns c =
    numbers-all (numbers_of (words_of Spaces c.args.words.now)) c.loop-word.numbers c.loop-word.left.now c.loop-word.invariant c.in_default.ensures.words

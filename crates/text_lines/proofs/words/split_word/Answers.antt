use Rattle.std.proofs.Common.{◌≡◌, ◌<◌, ◌∙◌, List, ℕ, length, sym, arith}
use Rattle.std.proofs.lemmas.Bool.{eqb-true, eqb-false}
use Rattle.std.proofs.lemmas.List.{take_rest}
use Rattle.text_lines.specs.Words.{is_separator}
use Rattle.text_lines.proofs.Cuts.{end-within}
use Rattle.text_lines.proofs.Spaced.{words_of-none, words_of-cut, length-after, empty}
use Rattle.text_lines.proofs.words.split_word.Goals as goal

pub returns-then-is_empty-clause-words : goal.returns-then-is_empty-clause-words
returns-then-is_empty-clause-words c =
    let none : length c.from_word-line.result.now ≡ 0 = eqb-true (length c.from_word-line.result.now) 0 (sym c.is_empty.ensures ∙ c.if-is_empty.true) in
    words_of-none c.args.separators c.args.line.now (sym c.from_word-line.ensures ∙ empty c.from_word-line.result.now none)

pub slice_bounds-result-count : goal.slice_bounds-result-count
slice_bounds-result-count c = omega (arith, c.length_of_word-end.ensures, end-within (is_separator c.args.separators) c.from_word-line.result.now)

pub slice_bounds-result-start : goal.slice_bounds-result-start
slice_bounds-result-start c = omega (arith, c.length_of_word-end.ensures, end-within (is_separator c.args.separators) c.from_word-line.result.now)

pub returns-clause-words : goal.returns-clause-words
returns-clause-words c =
    let rest : List ℕ = c.from_word-line.result.now in
    let full : length rest ≡ 0 → ⊥ = eqb-false (length rest) 0 (sym c.is_empty.ensures ∙ c.if-is_empty.false) in
    let some : 0 < length rest = omega arith in
    rw (take_rest rest c.length_of_word-end.result, c.length_of_word-end.ensures) (words_of-cut c.args.separators c.args.line.now rest c.from_word-line.ensures some)

pub returns-clause-shorter : goal.returns-clause-shorter
returns-clause-shorter c =
    let rest : List ℕ = c.from_word-line.result.now in
    let full : length rest ≡ 0 → ⊥ = eqb-false (length rest) 0 (sym c.is_empty.ensures ∙ c.if-is_empty.false) in
    let some : 0 < length rest = omega arith in
    rw (take_rest rest c.length_of_word-end.result, c.length_of_word-end.ensures) (length-after c.args.separators c.args.line.now rest c.from_word-line.ensures some)

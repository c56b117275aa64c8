-- The names that a text gives to nets are those of its lines, each read by itself.
use Rattle.std.proofs.Common.{◌≡◌, ℕ, suc, ◌+◌, ◌<◌, List, [], ◌∷◌, ◌++◌, length, refl, sym, ap, ◌∙◌, append_assoc, append-nil, inl, inr, arith}
use Rattle.std.specs.Prelude.{None}
use Rattle.std.proofs.lemmas.Bool.{cases_lt}
use Rattle.text_lines.specs.Lines.{lines_of, line_at}
use Rattle.index_search.specs.Places.{gathered_below}
use Rattle.index_search.proofs.Places.{gathered_below-same, gathered_below-sum}
use Rattle.layout_file.specs.declared.layouts.Layouts.{Layouts}
use Rattle.asc_text.specs.declared.file.Symbol.{Symbol as NetName}
use Rattle.asc_text.specs.Blocks.{depth_at, statement_at}
use Rattle.asc_text.specs.Statements.{statement_in}
use Rattle.asc_text.specs.Faults.{asc_fault_of}
use Rattle.asc_text.specs.Meaning.{symbol_in, symbols_before, asc_symbols_of}
use Rattle.asc_text.specs.inside.Symbols.{symbols_in}
use Rattle.asc_text.proofs.Dotted.{none_without_dot}
use Rattle.asc_text.proofs.RamLines.{at-flat, at-deep, dotless-deep}

-- what a line names
abbrev named : List ℕ → List NetName
named line = symbol_in (statement_in line) line

-- the names of lines, by their places
by_place : (lines : List (List ℕ)) → gathered_below (length lines) (λ k. named (line_at lines k)) ≡ symbols_in lines
unfolding gathered_below symbols_in
by_place [] = refl
by_place (line ∷ lines) =
    let first : suc (length lines) ≡ 1 + length lines = omega arith in
    let later : (k : ℕ) → k < length lines → named (line_at (line ∷ lines) (1 + k)) ≡ named (line_at lines k) = λ k below. let next : 1 + k ≡ suc k = omega arith in rw next refl in
    ap (λ n. gathered_below n (λ k. named (line_at (line ∷ lines) k))) first
    ∙ gathered_below-sum 1 (length lines) (λ k. named (line_at (line ∷ lines) k))
    ∙ ap (λ names. named line ++ names) (gathered_below-same (length lines) (λ k. named (line_at (line ∷ lines) (1 + k))) (λ k. named (line_at lines k)) later ∙ by_place lines)

-- a line of a text that can be read is a statement if it begins as one
same_at : (layouts : Layouts) (text : List ℕ) (n : ℕ) → asc_fault_of layouts text ≡ None → n < length (lines_of text) → statement_at (lines_of text) n ≡ statement_in (line_at (lines_of text) n)
same_at layouts text n none within =
    let lines = lines_of text in
    elim (cases_lt 0 (depth_at lines n)) [
      | inl deep ↦ at-deep lines n deep ∙ sym (none_without_dot (line_at lines n) (dotless-deep layouts text n none within deep))
      | inr flat ↦ at-flat lines n (omega arith)
    ]

pub symbols-are : (layouts : Layouts) (text : List ℕ) → asc_fault_of layouts text ≡ None → asc_symbols_of text ≡ symbols_in (lines_of text)
unfolding asc_symbols_of symbols_before
symbols-are layouts text none =
    let lines = lines_of text in
    gathered_below-same (length lines) (λ k. symbol_in (statement_at lines k) (line_at lines k)) (λ k. named (line_at lines k)) (λ k below. ap (λ statement. symbol_in statement (line_at lines k)) (same_at layouts text k none below))
    ∙ by_place lines

-- ---- one line after the other

-- a line more
pub symbols-more : (all now later : List NetName) (line : List ℕ) (left rest : List ℕ) → all ≡ now ++ symbols_in (lines_of left) → lines_of left ≡ line ∷ lines_of rest → later ≡ now ++ symbol_in (statement_in line) line → all ≡ later ++ symbols_in (lines_of rest)
unfolding symbols_in
symbols-more all now later line left rest is first added =
    is ∙ ap (λ lines. now ++ symbols_in lines) first ∙ sym (append_assoc now (named line) (symbols_in (lines_of rest))) ∙ ap (λ names. names ++ symbols_in (lines_of rest)) (sym added)

-- no line is left
pub symbols-all : (text left : List ℕ) (now : List NetName) → symbols_in (lines_of text) ≡ now ++ symbols_in (lines_of left) → left ≡ [] → now ≡ symbols_in (lines_of text)
unfolding symbols_in lines_of
symbols-all text left now is none = sym (is ∙ ap (λ l. now ++ symbols_in (lines_of l)) none ∙ append-nil now)

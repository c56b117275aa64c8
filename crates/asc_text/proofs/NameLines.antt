-- Lines that name nets, taken one after the other.
use Rattle.std.proofs.Common.{◌≡◌, ℕ, suc, ◌+◌, ◌<◌, Bool, true, false, List, ◌∷◌, length, refl, sym, ap, subst, ◌∙◌, inl, inr, arith}
use Rattle.std.proofs.lemmas.Bool.{cases_Bool}
use Rattle.std.specs.Prelude.{Some, None}
use Rattle.text_lines.specs.Lines.{lines_of}
use Rattle.asc_text.specs.declared.statement.Statement.{Statement}
use Rattle.asc_text.specs.declared.statement.Statement.TheVariants.{Symbol}
use Rattle.asc_text.specs.declared.reading.reader.Expected.{Expected}
use Rattle.asc_text.specs.declared.reading.reader.Expected.TheVariants.{Statement as AnyStatement}
use Rattle.asc_text.specs.Statements.{statement_in, begins_with_dot}
use Rattle.asc_text.specs.inside.Reading.{ReaderState, Takes, TakesFirst, TakesLines, line_refusal}
use Rattle.asc_text.proofs.Dotted.{none_without_dot}
use Rattle.asc_text.proofs.FirstLines.{taken-first}

-- a statement begins with a dot
statement-dot : (line : List ℕ) (statement : Statement) → statement_in line ≡ Some statement → begins_with_dot line ≡ true
statement-dot line statement is =
    elim (cases_Bool (begins_with_dot line)) [
      | inl dot ↦ dot
      | inr other ↦ absurd (cc (none_without_dot line other, is))
    ]

-- a line that names a net isn't refused
name-fits : (s : ReaderState) (line : List ℕ) (net : ℕ) → statement_in line ≡ Some (Symbol net) → line_refusal s AnyStatement line ≡ None
name-fits s line net is =
    let dot : begins_with_dot line ≡ true = statement-dot line (Symbol net) is in
    rw (dot, is) refl

-- and changes nothing if no comment goes on
name-takes : (s : ReaderState) (line : List ℕ) (net : ℕ) → s.in_comment ≡ false → statement_in line ≡ Some (Symbol net) → Takes s AnyStatement line s
name-takes s line net outside is =
    let dot : begins_with_dot line ≡ true = statement-dot line (Symbol net) is in
    let same : s ≡ record s { in_comment = false } = ap (λ (b : Bool). record s { in_comment = b }) outside in
    rw (dot, is) same

-- the first line of a text that names a net
pub takes-name : (s : ReaderState) (text line rest : List ℕ) (net : ℕ) → s.expected ≡ AnyStatement → s.in_comment ≡ false → lines_of text ≡ line ∷ lines_of rest → length rest < length text
    → statement_in line ≡ Some (Symbol net) → TakesFirst s text rest s
takes-name s text line rest net expected outside lines shorter is =
    taken-first s s text line rest lines shorter
    (ap (λ e. line_refusal s e line) expected ∙ name-fits s line net is)
    (subst (λ (e : Expected). Takes s e line s) (sym expected) (name-takes s line net outside is))

-- one line more of those that change nothing
pub one-more-name : (s : ReaderState) (text left rest : List ℕ) (count : ℕ) → TakesLines s text count left s → TakesFirst s left rest s → TakesLines s text (count + 1) rest s
one-more-name s text left rest count taken took =
    let next : suc count ≡ count + 1 = omega arith in
    subst (λ (n : ℕ). TakesLines s text n rest s) next (left, s, taken, took)

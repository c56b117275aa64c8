-- The lines of a text that comes in pieces: what the lines so far give, and what they say of the text.
use Rattle.std.proofs.Common.{◌≡◌, ℕ, zero, suc, ◌<◌, ◌≤◌, inl, inr, refl, ◌+◌, List, [], ◌++◌, length, sym, ap, subst, ◌∙◌, append_assoc, arith}
use Rattle.std.specs.Prelude.{Option, Some, None, Result, Ok, Err, IfOk, IfErr, OnOk}
use Rattle.std.proofs.lemmas.List.{length-append}
use Rattle.std.proofs.lemmas.Bool.{cases_lt}
use Rattle.index_search.specs.Places.{first_below, or_else}
use Rattle.text_lines.specs.Lines.{lines_of}
use Rattle.text_lines.specs.Pieces.{ended_lines}
use Rattle.text_lines.specs.Feeding.{HasFed, HasFront, TakesLines, RefusesLines}
use Rattle.text_lines.proofs.WholeLines.{ended-append}
use Rattle.layout_file.specs.declared.layouts.Layouts.{Layouts}
use Rattle.layout_file.specs.Layouts.{AreLayouts}
use Rattle.asc_text.specs.declared.fault.AscFault.{AscFault}
use Rattle.asc_text.specs.declared.fault.AscCause.{AscCause}
use Rattle.asc_text.specs.declared.fault.TileXy.{TileXy}
use Rattle.asc_text.specs.declared.reading.asc_lines.AscLines.{AscLines}
use Rattle.asc_text.specs.Blocks.{statement_over}
use Rattle.asc_text.specs.Faults.{Fault, asc_fault_of, cause_at, fault_at, fault_with, tile_named}
use Rattle.asc_text.specs.Ended.{IsFaultless}
use Rattle.asc_text.specs.inside.Reading.{state_of, begun}
use Rattle.asc_text.specs.inside.LinesTaken.{TakesEach, StopsIn}
use Rattle.asc_text.specs.inside.Feeding.{HasTaken, Refuses}
use Rattle.asc_text.proofs.HasRead.{HasRead}
use Rattle.asc_text.proofs.LinesRead.{TakesEach-then, HasRead-from, HasRead-all, stopped}

-- nothing is taken
pub taken-none : (layouts : Layouts) (taker : AscLines) → AreLayouts layouts → state_of taker.reader ≡ begun layouts → taker.count ≡ 0 → HasTaken layouts taker []
taken-none layouts taker are is none = record { laid = are; taken = is; count_is = none }

-- lines more
pub taken-more : (before after : AscLines) (lines : List (List ℕ)) → TakesEach (state_of before.reader) lines (state_of after.reader) → after.count ≡ before.count + length lines → TakesLines HasTaken before after lines
taken-more before after lines taken counted = λ layouts front has. record {
  laid = has.laid;
  taken = TakesEach-then (begun layouts) (state_of before.reader) (state_of after.reader) front lines has.taken taken;
  count_is = omega (arith, counted, has.count_is, length-append front lines);
}

-- one of them is refused
pub taken-stops : (before : AscLines) (lines : List (List ℕ)) (fault : AscFault) → StopsIn (state_of before.reader) before.count lines fault → RefusesLines HasTaken Refuses before lines fault
taken-stops before lines fault stops = λ layouts front more has text is.
    stopped layouts text front lines more before.count (state_of before.reader) fault has.laid (is ∙ append_assoc front lines more) has.taken has.count_is stops

-- all lines were taken
pub taken-all : (layouts : Layouts) (text : List ℕ) (taker : AscLines) → HasTaken layouts taker (lines_of text) → HasRead layouts (lines_of text) (length (lines_of text)) (state_of taker.reader)
taken-all layouts text taker has = HasRead-all layouts (lines_of text) (lines_of text) (state_of taker.reader) refl has.laid has.taken

-- ---- what holds for each text of a result

pub ok-each : {A E : Type 0} (r : Result A E) (I : Layouts → List ℕ → Type 0) (P : Layouts → List ℕ → A → Type 0) → ((layouts : Layouts) (text : List ℕ) → I layouts text → IfOk r (P layouts text)) → IfOk r (λ x. (layouts : Layouts) (text : List ℕ) → I layouts text → P layouts text x)
ok-each (Ok x) I P each = each
ok-each (Err e) I P each = tt

pub err-each : {A E : Type 0} (r : Result A E) (I : Layouts → List ℕ → Type 0) (P : Layouts → List ℕ → E → Type 0) → ((layouts : Layouts) (text : List ℕ) → I layouts text → IfErr r (P layouts text)) → IfErr r (λ e. (layouts : Layouts) (text : List ℕ) → I layouts text → P layouts text e)
err-each (Ok x) I P each = tt
err-each (Err e) I P each = each

pub on_ok-each : {A E : Type 0} (r : Result A E) (I P : Layouts → List ℕ → Type 0) → ((layouts : Layouts) (text : List ℕ) → I layouts text → OnOk r (P layouts text)) → OnOk r ((layouts : Layouts) (text : List ℕ) → I layouts text → P layouts text)
on_ok-each (Ok x) I P each = each
on_ok-each (Err e) I P each = tt

-- ---- what is known of a text

-- if there is no refusal, the lines that have ended were taken
pub front-of : (layouts : Layouts) (text : List ℕ) (refusal : Option AscFault) (taker : AscLines) (kept : List ℕ) → HasFed HasTaken Refuses layouts text refusal taker kept → refusal ≡ None → HasFront HasTaken layouts text taker kept
front-of layouts text refusal taker kept has none = subst (λ (r : Option AscFault). HasFed HasTaken Refuses layouts text r taker kept) none has

first-or : {A : Type 0} (found : Option A) (bound n : ℕ) (given : ℕ → Option A) (value : A) → ((k : ℕ) → k < n → given k ≡ None) → (found ≡ Some value → (k : ℕ) × (n ≤ k) × (given k ≡ Some value)) → or_else found (given bound) ≡ Some value
    → (k : ℕ) × (n ≤ k) × (given k ≡ Some value)
first-or (Some earlier) bound n given value none before is = before is
first-or None bound n given value none before is =
    elim (cases_lt bound n) [
      | inl lt ↦ let nothing : given bound ≡ None = none bound lt in absurd cc
      | inr le ↦ (bound, le, is)
    ]

-- the first value below a bound, if none is below another
first-later : {A : Type 0} (bound n : ℕ) (given : ℕ → Option A) (value : A) → ((k : ℕ) → k < n → given k ≡ None) → first_below bound given ≡ Some value → (k : ℕ) × (n ≤ k) × (given k ≡ Some value)
unfolding first_below
first-later zero n given value none is = absurd cc
first-later (suc bound) n given value none is = first-or (first_below bound given) bound n given value none (λ earlier. first-later bound n given value none earlier) is

-- a fault is at its line
line-of : (cause : Option AscCause) (line : ℕ) (tile : Option TileXy) (fault : Fault) → fault_with cause line tile ≡ Some fault → fault.line ≡ line
line-of None line tile fault is = absurd cc
line-of (Some cause) line tile fault is =
    let same : record { line = line; tile = tile; cause = cause } ≡ fault = cc in
    sym (ap (λ (f : Fault). f.line) same)

-- no line that was taken is faulty
pub taken-faultless : (layouts : Layouts) (text : List ℕ) (taker : AscLines) (kept : List ℕ) → HasFront HasTaken layouts text taker kept → IsFaultless layouts text
unfolding asc_fault_of
taken-faultless layouts text taker kept has = λ more fault is.
    let front = has.front in
    let n = length (lines_of front) in
    let parts : lines_of (text ++ more) ≡ lines_of front ++ lines_of (kept ++ more) =
    ap (λ t. lines_of (t ++ more)) has.cut.parts ∙ ap lines_of (append_assoc front kept more) ∙ has.cut.whole.lines (kept ++ more) in
    let read = HasRead-from layouts (lines_of front) (lines_of (kept ++ more)) (state_of taker.reader) has.taken.laid has.taken.taken in
    let fit = subst (λ (ls : List (List ℕ)). (k : ℕ) → k < n → cause_at layouts ls k ≡ None) (sym parts) read.fit in
    let all = lines_of (text ++ more) in
    let found = first-later (length all + 1) n (fault_at layouts all) fault (λ k below. rw (fit k below) refl) is in
    let line : fault.line ≡ found.0 + 1 = line-of (cause_at layouts all found.0) (found.0 + 1) (tile_named (statement_over all found.0)) fault found.2 in
    let many : ended_lines text ≡ n + 0 = ap ended_lines has.cut.parts ∙ omega (arith, ended-append front kept, has.cut.whole.count, has.cut.rest) in
    omega (arith, found.1, line, many)

-- The lines of a text, read one after the other, and the first that is faulty.
use Rattle.std.proofs.Common.{◌≡◌, ℕ, zero, suc, ◌+◌, ◌<◌, ◌≤◌, List, [], length, drop, add-one, refl, sym, ap, ◌∙◌, inl, inr, arith, subst}
use Rattle.std.specs.Prelude.{Option, Some, None}
use Rattle.std.proofs.lemmas.Bool.{cases_eq}
use Rattle.shared_lemmas.proofs.Cuts.{drop_end}
use Rattle.text_lines.specs.Lines.{lines_of, line_at}
use Rattle.index_search.specs.Places.{first_below}
use Rattle.layout_file.specs.declared.fault.LayoutFault.{LayoutFault}
use Rattle.layout_file.specs.declared.reader.SectionReader.{SectionReader}
use Rattle.layout_file.specs.Lines.{line_of}
use Rattle.layout_file.specs.Faults.{cause_of, fault_at, fault_with, layout_fault_of, said_at}
use Rattle.layout_file.specs.Layouts.{layouts_in}
use Rattle.layout_file.specs.inside.Reading.{layouts_of, refusal, taken}
use Rattle.layout_file.proofs.LineSteps.{reader_before, refusal-is}
use Rattle.layout_file.proofs.FieldSteps.{reader-next}

none-left : (left : List ℕ) (lines : List (List ℕ)) → left ≡ [] → lines_of left ≡ lines → lines ≡ []
unfolding lines_of
none-left left lines none is = sym is ∙ ap lines_of none

-- no line is left
pub cut-end : (lines : List (List ℕ)) (k : ℕ) (left : List ℕ) → left ≡ [] → lines_of left ≡ drop k lines → k ≤ length lines → k ≡ length lines
cut-end lines k left none is within = drop_end lines k (none-left left (drop k lines) none is) within

-- the cause of a line is why the reader refuses it
cause-is : (lines : List (List ℕ)) (k : ℕ) (line : List ℕ) (reader : SectionReader) → line_at lines k ≡ line → reader ≡ reader_before lines k
    → cause_of lines k (said_at lines k) ≡ refusal reader (line_of line)
cause-is lines k line reader at read =
    rw (at, read) (sym (refusal-is lines k (line_of line)))

-- the reader after a line that it took
pub read-next : (lines : List (List ℕ)) (k : ℕ) (line : List ℕ) (reader next : SectionReader) → line_at lines k ≡ line → reader ≡ reader_before lines k
    → refusal reader (line_of line) ≡ None → next ≡ taken reader (line_of line) → next ≡ reader_before lines (k + 1)
read-next lines k line reader next at read none takes =
    let said : said_at lines k ≡ line_of line = ap line_of at in
    let fits : cause_of lines k (line_of line) ≡ None = rw said at (cause-is lines k line reader at read ∙ none) in
    takes ∙ ap (λ (r : SectionReader). taken r (line_of line)) read ∙ sym (rw add-one (reader-next lines k (line_of line) said fits))

-- and there is no fault yet
pub fit-next : (lines : List (List ℕ)) (k : ℕ) (line : List ℕ) (reader : SectionReader) → line_at lines k ≡ line → reader ≡ reader_before lines k
    → refusal reader (line_of line) ≡ None → first_below k (fault_at lines) ≡ None → first_below (k + 1) (fault_at lines) ≡ None
unfolding first_below
fit-next lines k line reader at read none fit =
    let here : fault_at lines k ≡ None = ap (fault_with (k + 1)) (cause-is lines k line reader at read ∙ none) in
    rw (add-one, fit) here

-- the first value stays the first
first-stays : {A : Type 0} (n k : ℕ) (given : ℕ → Option A) (value : A) → k < n → first_below k given ≡ None → given k ≡ Some value → first_below n given ≡ Some value
unfolding first_below
first-stays zero k given value below none here = absurd (omega arith)
first-stays (suc n) k given value below none here =
    elim (cases_eq k n) [
      | inl last ↦
          let earlier : first_below n given ≡ None = subst (λ m. first_below m given ≡ None) last none in
          let now : given n ≡ Some value = subst (λ m. given m ≡ Some value) last here in
          rw (earlier, now) refl
      | inr before ↦ rw (first-stays n k given value (omega arith) none here) refl
    ]

-- a line that is refused is the first faulty one
pub refused : (text : List ℕ) (k : ℕ) (line : List ℕ) (reader : SectionReader) (fault : LayoutFault) → k < length (lines_of text)
    → line_at (lines_of text) k ≡ line → reader ≡ reader_before (lines_of text) k
    → first_below k (fault_at (lines_of text)) ≡ None → fault_with (k + 1) (refusal reader (line_of line)) ≡ Some fault
    → layout_fault_of text ≡ Some fault
unfolding layout_fault_of
refused text k line reader fault within at read fit told =
    first-stays (length (lines_of text)) k (fault_at (lines_of text)) fault within fit
    (ap (fault_with (k + 1)) (cause-is (lines_of text) k line reader at read) ∙ told)

-- if all lines were taken there is no fault
pub accepted : (text : List ℕ) (k : ℕ) → k ≡ length (lines_of text) → first_below k (fault_at (lines_of text)) ≡ None → layout_fault_of text ≡ None
unfolding layout_fault_of
accepted text k all fit = subst (λ n. first_below n (fault_at (lines_of text)) ≡ None) all fit

-- and the reader has the layouts of the text
pub answered : (text : List ℕ) (k : ℕ) (reader : SectionReader) → k ≡ length (lines_of text) → reader ≡ reader_before (lines_of text) k
    → layouts_of reader ≡ layouts_in text
unfolding layouts_in
answered text k reader all read = rw (read, all) refl

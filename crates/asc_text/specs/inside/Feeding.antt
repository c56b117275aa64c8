-- What the lines of a text that comes in pieces give, taken so far.
use Rattle.std.specs.Prelude.{◌≡◌, ℕ, List, length}
use Rattle.text_lines.specs.Lines.{lines_of}
use Rattle.layout_file.specs.declared.layouts.Layouts.{Layouts}
use Rattle.layout_file.specs.Layouts.{AreLayouts}
use Rattle.asc_text.specs.declared.fault.AscFault.{AscFault}
use Rattle.asc_text.specs.declared.reading.asc_lines.AscLines.{AscLines}
use Rattle.asc_text.specs.Faults.{Tells, asc_fault_of}
use Rattle.asc_text.specs.inside.Reading.{state_of, begun}
use Rattle.asc_text.specs.inside.LinesTaken.{TakesEach, IsReached}

-- under layouts, these lines were taken
pub record HasTaken (layouts : Layouts) (taker : AscLines) (lines : List (List ℕ)) : Type 0 where
  pub laid : AreLayouts layouts
  pub taken : TakesEach (begun layouts) lines (state_of taker.reader)
  pub count_is : taker.count ≡ length lines

-- under layouts, the fault is that of the first faulty line of a text of these lines
abbrev pub Refuses : Layouts → List (List ℕ) → AscFault → Type 0
Refuses layouts lines fault = (text : List ℕ) → lines_of text ≡ lines → Tells (asc_fault_of layouts text) fault

-- some lines have led to what is kept
abbrev pub CanTake : AscLines → Type 0
CanTake taker = ∥ IsReached (state_of taker.reader) ∥₁

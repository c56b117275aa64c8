-- The lines of a text that have ended, if more may follow.
use Rattle.std.specs.Prelude.{◌≡◌, ℕ, ◌<◌, List, ◌++◌, Some}
use Rattle.text_lines.specs.Pieces.{ended_lines}
use Rattle.layout_file.specs.declared.layouts.Layouts.{Layouts}
use Rattle.asc_text.specs.Faults.{Fault, asc_fault_of}

-- no line that has ended is faulty: whatever follows, the first faulty line comes after them
abbrev pub IsFaultless : Layouts → List ℕ → Type 0
IsFaultless layouts text = (more : List ℕ) (fault : Fault) → asc_fault_of layouts (text ++ more) ≡ Some fault → ended_lines text < fault.line

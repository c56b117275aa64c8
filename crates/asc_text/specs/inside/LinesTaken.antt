-- Lines that a reader takes one after the other.
use Rattle.std.specs.Prelude.{◌≡◌, ℕ, ◌+◌, List, [], ◌∷◌, ◌++◌, length, None}
use Rattle.layout_file.specs.declared.layouts.Layouts.{Layouts}
use Rattle.layout_file.specs.Layouts.{AreLayouts}
use Rattle.asc_text.specs.declared.fault.AscFault.{AscFault}
use Rattle.asc_text.specs.Faults.{Tells, fault_with, tile_named}
use Rattle.asc_text.specs.inside.Reading.{ReaderState, begun, line_refusal, statement_of, Takes}

-- the lines were taken, and none of them is refused
abbrev pub TakesEach : ReaderState → List (List ℕ) → ReaderState → Type 0
TakesEach s [] new = new ≡ s
TakesEach s (line ∷ lines) new = (between : ReaderState) × (line_refusal s s.expected line ≡ None) × Takes s s.expected line between × TakesEach between lines new

-- the first of the lines that is refused, after `count` lines that were taken before them, and the fault that is reported for it
pub record StopsIn (s : ReaderState) (count : ℕ) (lines : List (List ℕ)) (fault : AscFault) : Type 0 where
  pub before : List (List ℕ)
  pub line : List ℕ
  pub more : List (List ℕ)
  pub parts : lines ≡ before ++ line ∷ more
  pub between : ReaderState
  pub taken : TakesEach s before between
  pub told : Tells (fault_with (line_refusal between between.expected line) (count + length before + 1) (tile_named (statement_of between.expected line))) fault

-- some lines have led to what is kept
pub record IsReached (s : ReaderState) : Type 0 where
  pub layouts : Layouts
  pub laid : AreLayouts layouts
  pub lines : List (List ℕ)
  pub taken : TakesEach (begun layouts) lines s

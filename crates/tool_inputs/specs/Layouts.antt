-- Layouts for a tool that takes `--layout FILE`.
use Rattle.std.specs.Prelude.{◌≡◌, ℕ, List, ◌++◌, codes, decimal, Option, None, Some, Result, Ok, Err}
use Rattle.layout_file.specs.declared.fault.LayoutCause.{LayoutCause}
use Rattle.layout_file.specs.declared.fault.LayoutCause.TheVariants.{Statement, Device, Repeated, Width, Place}
use Rattle.layout_file.specs.declared.fault.LayoutFault.{LayoutFault}
use Rattle.layout_file.specs.declared.layouts.Layouts.{Layouts}
use Rattle.layout_file.specs.Faults.{layout_fault_of}
use Rattle.layout_file.specs.Layouts.{layouts_in, standard_layouts}
use Rattle.tool_run.specs.Lines.{refusal_text}
use Rattle.tool_run.specs.Tasks.{Answer, Refused as Refuses}
use Rattle.tool_run.specs.declared.tool.Stop.{Stop}
use Rattle.tool_run.specs.declared.tool.Stop.TheVariants.{Refused, Quiet, UsageError, Memory}

-- the word for a cause
abbrev pub layout_cause_text : LayoutCause → List ℕ
layout_cause_text Statement = codes "Statement"
layout_cause_text Device = codes "Device"
layout_cause_text Repeated = codes "Repeated"
layout_cause_text Width = codes "Width"
layout_cause_text Place = codes "Place"

abbrev pub layout_fault_text : LayoutFault → List ℕ
layout_fault_text fault = codes "layout line " ++ decimal fault.line ++ codes ": " ++ layout_cause_text fault.cause

abbrev pub layouts_with : Layouts → Option LayoutFault → Result Layouts (List ℕ)
layouts_with layouts None = Ok layouts
layouts_with layouts (Some fault) = Err (layout_fault_text fault)

-- the layouts that a layout file gives, or the message for its fault
unfoldable pub layouts_read : List ℕ → Result Layouts (List ℕ)
layouts_read bytes = layouts_with (layouts_in bytes) (layout_fault_of bytes)

-- the layouts for a tool: those of the layout file if one is named, and else the standard layouts
abbrev pub layouts_for : Option (List ℕ) → Result Layouts (List ℕ)
layouts_for None = Ok standard_layouts
layouts_for (Some bytes) = layouts_read bytes

-- the answer of a tool under layouts; a faulty layout file is refused before anything else is read
abbrev pub answer_under : Result Layouts (List ℕ) → (Layouts → Answer) → Answer
answer_under (Ok layouts) answer = answer layouts
answer_under (Err text) answer = Refuses text

-- if no layouts are read, the tool refuses with the message for the file's fault, and stops for no other cause
abbrev pub StopsLayouts : Result Layouts (List ℕ) → Stop → Type 0
StopsLayouts read (Refused refusal) = read ≡ Err (refusal_text refusal)
StopsLayouts read Quiet = ⊥
StopsLayouts read (UsageError refusal) = ⊥
StopsLayouts read Memory = ⊥

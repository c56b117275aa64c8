-- Loading, and what a tool makes of what was loaded.
use Rattle.std.specs.Prelude.{◌≡◌, ℕ, Bool, true, false, List, Option, Result, Ok, Err, IfOk, IfErr, OnOk}
use Rattle.std.specs.Io.KnownBytes.{IsAtEnd}
use Rattle.ice_io.specs.Files.{FileMap}
use Rattle.tool_run.specs.Needs.{Need, reads_files, reads_input}
use Rattle.tool_run.specs.Counts.{Counts}
use Rattle.tool_run.specs.Tasks.{Answer}
use Rattle.tool_run.specs.Loads.{AreTextsOf, IsReached, StopsLoading}
use Rattle.tool_run.specs.Stops.{StopsWith}
use Rattle.tool_run.specs.declared.load.LoadStop.{LoadStop}
use Rattle.tool_run.specs.declared.tool.Stop.{Stop}

-- what a tool made is this answer, or it is why the tool gives no bytes
abbrev pub Gives : {M : Type 0} → (M → Answer) → Answer → Result M Stop → Type 0
Gives answer_with answer (Ok made) = answer ≡ answer_with made
Gives answer_with answer (Err stop) = StopsWith answer stop

-- what was made of the needs, or why loading stopped
pub record Answers {F I M : Type 0} (contents : F → Option FileMap) (steady : F → Bool) (loads stores : F → Counts) (left : I → Option (List ℕ)) (reads : I → Counts) (needs : List Need) (answer : List (List ℕ) → Answer) (answer_with : M → Answer) (result : Result (Result M Stop) LoadStop) (files new_files : F) (input new_input : I) : Type 0 where
  pub made : IfOk result (λ made. (texts : List (List ℕ))
      × AreTextsOf (contents files) (left input) needs texts
      × Gives answer_with (answer texts) made)
  pub stops : IfErr result (StopsLoading (contents files) (steady files) left reads needs (loads files) (loads new_files) input new_input)
  pub end : OnOk result (reads_input needs ≡ true → IsAtEnd (left new_input))
  pub same_contents : contents new_files ≡ contents files
  pub same_stores : stores new_files ≡ stores files
  pub unread : reads_input needs ≡ false → new_input ≡ input
  pub unreached : IsReached (contents files) left needs input new_input
  pub unasked : reads_files needs ≡ false → new_files ≡ files

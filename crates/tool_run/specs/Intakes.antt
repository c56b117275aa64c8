-- What has taken the texts of needs, or passes them over.
use Rattle.std.specs.Prelude.{ℕ, List, Result, Ok, Err}
use Rattle.tool_run.specs.Stops.{StopsWith}
use Rattle.tool_run.specs.Tasks.{Answer}
use Rattle.tool_run.specs.declared.tool.Stop.{Stop}

-- an intake has taken these bytes, or the tool stops, whatever the texts are
abbrev pub TakesOrStops : {I : Type 0} → (I → List ℕ → Type 0) → (List (List ℕ) → Answer) → Result I Stop → List ℕ → Type 0
TakesOrStops takes answer (Ok intake) bytes = takes intake bytes
TakesOrStops takes answer (Err stop) bytes = (texts : List (List ℕ)) → StopsWith (answer texts) stop

-- how many bytes of the next text count
abbrev pub fed_or_none : {I : Type 0} → (I → ℕ) → Result I Stop → ℕ
fed_or_none fed (Ok intake) = fed intake
fed_or_none fed (Err stop) = 0

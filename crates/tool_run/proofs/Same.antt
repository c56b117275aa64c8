-- A run of a task is a run of an equal task.
use Rattle.std.proofs.Common.{◌≡◌, ℕ, subst}
use Rattle.tool_run.specs.Tasks.{Task}
use Rattle.tool_run.specs.Runs.{Does, Outside, Scene}

pub Does-same : {F I O E : Type 0} (by : Outside F I O E) (task other : Task) (status : ℕ) (old new : Scene F I O E) → task ≡ other → Does by task status old new → Does by other status old new
Does-same by task other status old new same does = subst (λ (t : Task). Does by t status old new) same does

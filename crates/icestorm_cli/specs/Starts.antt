-- How a run of the program begins: with its arguments, the first of which is its own name.
use Rattle.std.specs.Prelude.{◌≡◌, ◌⊎◌, ℕ, List, Some, drop}
use Rattle.fabric_model.specs.Unique.{ExactlyOne}
use Rattle.tool_run.specs.Tasks.{Task}
use Rattle.tool_run.specs.Runs.{Does, Outside, Scene}
use Rattle.design_tools.specs.Fabric.{PromisesFabric, PromisesNames}
use Rattle.selfrun_tool.specs.Selfrun.{IsSelfrunAnswer}
use Rattle.icestorm_cli.specs.Runs.{PromisesRun}
use Rattle.icestorm_cli.specs.Tools.{IsOutcome, tool_of}
use Rattle.icestorm_cli.specs.declared.tool.Tool.TheVariants.{IceboxVlog, Selfrun, Vlogrun}

-- What the arguments after the program's name ask for was done, and what is promised for these arguments holds.
pub record Keeps {F I O E : Type 0} (by : Outside F I O E) (args : List (List ℕ)) (status : ℕ) (old new : Scene F I O E) : Type 0 where
  pub does : (task : Task) → IsOutcome args task → Does by task status old new
  pub one_answer : tool_of args ≡ Some Selfrun → ExactlyOne (IsSelfrunAnswer args)
  pub written_fabric : tool_of args ≡ Some IceboxVlog → PromisesFabric by args status old new
  pub written_names : tool_of args ≡ Some IceboxVlog → PromisesNames by args status old new
  pub run_of_fabric : tool_of args ≡ Some Vlogrun → PromisesRun by args status old new

-- That holds of the arguments after the first one; or memory was out for a list of them, and nothing was touched.
abbrev pub Starts : {F I O E : Type 0} → Outside F I O E → List (List ℕ) → ℕ → Scene F I O E → Scene F I O E → Type 0
Starts by args status old new = Keeps by (drop 1 args) status old new ⊎ ((status ≡ 5) × (new ≡ old))

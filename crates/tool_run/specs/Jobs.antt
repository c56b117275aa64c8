-- The task of a job, and how a tool refuses.
use Rattle.std.specs.Prelude.{◌≡◌, ℕ, List, Option, None, Some, ◌⊎◌, map}
use Rattle.tool_run.specs.Needs.{need_of, text_of}
use Rattle.tool_run.specs.Tasks.{Answer, Both, Refused, Quiet, UsageError, Task, layout_task, plain_task}
use Rattle.tool_run.specs.declared.performing.Job.{Job}

-- the task of a job, if this is made of what was read
abbrev pub task_of : Job → (List (List ℕ) → Answer) → Task
task_of job answer = plain_task job.tool_name.now (map need_of job.loads.now) (text_of job.target) answer

-- the task of a job under a layout file, if one is named
abbrev pub task_under : Option (List ℕ) → Job → (Option (List ℕ) → List (List ℕ) → Answer) → Task
task_under layout job answer = layout_task job.tool_name.now layout (map need_of job.loads.now) (text_of job.target) answer

-- a file stands beside the target only if that is standard output
abbrev pub IsBesideOutput : Option (List ℕ) → Option (List ℕ) → Type 0
IsBesideOutput beside target = (beside ≡ None) ⊎ (target ≡ None)

-- the answer refuses with this status, and with this text if it says anything
abbrev pub RefusesWith : Answer → ℕ → Option (List ℕ) → Type 0
RefusesWith (Both bytes beside) status said = ⊥
RefusesWith (Refused text) status said = (status ≡ 1) × (said ≡ Some text)
RefusesWith Quiet status said = (status ≡ 1) × (said ≡ None)
RefusesWith (UsageError text) status said = (status ≡ 2) × (said ≡ Some text)

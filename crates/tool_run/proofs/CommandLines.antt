-- What all tools know of the tasks of their command lines.
use Rattle.std.proofs.Common.{◌≡◌, Bool, true, false, ℕ, List, refl}
use Rattle.std.specs.Prelude.{Option, None, Some, option_map, if◌then◌else◌}
use Rattle.std.specs.Borrow.{Bor}
use Rattle.tool_run.specs.Needs.{text_of}
use Rattle.tool_run.specs.Tasks.{Task, Done, asks_for_help, at_once, helped}

-- a text that may be missing, either way
pub text_of-map : (text : Option (Bor (List ℕ))) → option_map (λ t. t.now) text ≡ text_of text
text_of-map None = refl
text_of-map (Some text) = refl

-- where arguments are taken, the task is what was found
pub taken_task : (taken : Bool) (found other : Task) → true ≡ taken → (if taken then found else other) ≡ found
taken_task true found other e = refl
taken_task false found other e = absurd cc

-- where they aren't, it is the other one
pub missed_task : (taken : Bool) (found other : Task) → false ≡ taken → (if taken then found else other) ≡ other
missed_task true found other e = absurd cc
missed_task false found other e = refl

-- a task with its help speaks as the task
pub helped-tool_name : (name help : List ℕ) (args : List (List ℕ)) (task : Task) → task.tool_name ≡ name → (helped name help args task).tool_name ≡ name
helped-tool_name name help args task speaks = by_case (asks_for_help args)
  where
    by_case : (asks : Bool) → (if asks then at_once name None (Done help) else task).tool_name ≡ name
    by_case true = refl
    by_case false = speaks

-- Laws of the command lines of `icebox_explain`, `icebox_diff`, `icebox_stat` and `icebox_plan`: each command is simple, as `clap`'s statement needs it, and each task
-- has the name of its tool.
use Rattle.std.specs.Prelude.{◌≡◌, Bool, true, List, codes, refl, Option, None, Some}
use Rattle.clap.specs.Words.{Row, Text, first_of, is_simple_and_free}
use Rattle.clap.proofs.OnLiterals.{clap_on_literals}
use Rattle.asc_text.specs.declared.fault.TileXy.{TileXy}
use Rattle.tool_inputs.specs.Commands.{has_flag}
use Rattle.fabric_tools.specs.Explain.{explain_command, explain_name, explain_task_by, explain_task_of, tile_given}
use Rattle.design_answers.specs.PinRequests.{Named, pins_in}
use Rattle.fabric_tools.specs.Diff.{diff_command, diff_name, diff_task_by, diff_task_of}
use Rattle.fabric_tools.specs.Plan.{plan_command, plan_name, plan_task_by, plan_task_of}
use Rattle.fabric_tools.specs.Stat.{stat_command, stat_name, stat_task_by, stat_task_of}

pub explain-simple : is_simple_and_free explain_command ≡ true
unfolding clap_on_literals
explain-simple = refl

of-speaks : (only : Option (Option TileXy)) (layout db image : Option Text) → (explain_task_of only layout db image).tool_name ≡ explain_name
of-speaks (Some only) layout (Some db) image = refl
of-speaks (Some only) layout None image = refl
of-speaks None layout db image = refl

pub explain-speaks : (rows : List Row) → (explain_task_by rows).tool_name ≡ explain_name
explain-speaks rows = of-speaks (tile_given (first_of (codes "tile") rows)) (first_of (codes "layout") rows) (first_of (codes "db") rows) (first_of (codes "image") rows)

-- ---- icebox_diff

pub diff-simple : is_simple_and_free diff_command ≡ true
unfolding clap_on_literals
diff-simple = refl

diff_of-speaks : (quiet : Bool) (layout db first second : Option Text) → (diff_task_of quiet layout db first second).tool_name ≡ diff_name
diff_of-speaks quiet layout (Some db) (Some first) (Some second) = refl
diff_of-speaks quiet layout (Some db) (Some first) None = refl
diff_of-speaks quiet layout (Some db) None second = refl
diff_of-speaks quiet layout None first second = refl

pub diff-speaks : (rows : List Row) → (diff_task_by rows).tool_name ≡ diff_name
diff-speaks rows =
    diff_of-speaks (has_flag (codes "quiet") rows) (first_of (codes "layout") rows) (first_of (codes "db") rows) (first_of (codes "first") rows) (first_of (codes "second") rows)

-- ---- icebox_stat

pub stat-simple : is_simple_and_free stat_command ≡ true
unfolding clap_on_literals
stat-simple = refl

stat_of-speaks : (all : Bool) (layout db image : Option Text) → (stat_task_of all layout db image).tool_name ≡ stat_name
stat_of-speaks all layout (Some db) image = refl
stat_of-speaks all layout None image = refl

pub stat-speaks : (rows : List Row) → (stat_task_by rows).tool_name ≡ stat_name
stat-speaks rows = stat_of-speaks (has_flag (codes "all-pins") rows) (first_of (codes "layout") rows) (first_of (codes "db") rows) (first_of (codes "image") rows)

-- ---- icebox_plan

pub plan-simple : is_simple_and_free plan_command ≡ true
unfolding clap_on_literals
plan-simple = refl

plan_of-speaks : (all : Bool) (pins : Option (Option Named)) (layout db image : Option Text) → (plan_task_of all pins layout db image).tool_name ≡ plan_name
plan_of-speaks all (Some (Some pins)) layout (Some db) image = refl
plan_of-speaks all (Some None) layout (Some db) image = refl
plan_of-speaks all (Some pins) layout None image = refl
plan_of-speaks all None layout db image = refl

pub plan-speaks : (rows : List Row) → (plan_task_by rows).tool_name ≡ plan_name
plan-speaks rows = plan_of-speaks (has_flag (codes "all-pins") rows) (pins_in rows) (first_of (codes "layout") rows) (first_of (codes "db") rows) (first_of (codes "image") rows)

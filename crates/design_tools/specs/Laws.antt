-- Laws of the command line of `icebox_vlog`: its command is simple, as `clap`'s statement needs it, and each task has its name.
use Rattle.std.specs.Prelude.{◌≡◌, true, List, codes, refl, Option, None, Some}
use Rattle.clap.specs.Words.{Row, Text, first_of, is_simple_and_free}
use Rattle.clap.proofs.OnLiterals.{clap_on_literals}
use Rattle.fabric_model.specs.declared.options.FabricOptions.{FabricOptions}
use Rattle.design_tools.specs.Names.{name_given}
use Rattle.design_answers.specs.PinRequests.{Named, pins_in}
use Rattle.design_tools.specs.Vlog.{options_in, vlog_command, vlog_name, vlog_task_by, vlog_task_of}

pub vlog-simple : is_simple_and_free vlog_command ≡ true
unfolding clap_on_literals
vlog-simple = refl

of-speaks : (options : FabricOptions) (name : Option Text) (pins : Option (Option Named)) (names layout db image : Option Text) → (vlog_task_of options name pins names layout db image).tool_name ≡ vlog_name
of-speaks options (Some name) (Some (Some pins)) names layout (Some db) image = refl
of-speaks options (Some name) (Some None) names layout (Some db) image = refl
of-speaks options (Some name) (Some pins) names layout None image = refl
of-speaks options (Some name) None names layout db image = refl
of-speaks options None pins names layout db image = refl

pub vlog-speaks : (rows : List Row) → (vlog_task_by rows).tool_name ≡ vlog_name
vlog-speaks rows =
    of-speaks (options_in rows) (name_given (first_of (codes "name") rows)) (pins_in rows) (first_of (codes "names") rows) (first_of (codes "layout") rows)
    (first_of (codes "db") rows) (first_of (codes "image") rows)

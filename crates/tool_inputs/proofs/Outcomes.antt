-- What arguments ask a tool for.
use Rattle.std.proofs.Common.{◌≡◌, Bool, true, false, List, refl}
use Rattle.std.specs.Prelude.{if◌then◌else◌}
use Rattle.clap.specs.Words.{Row, Text, matches_of}
use Rattle.tool_inputs.specs.Commands.{is_taken}
use Rattle.tool_inputs.specs.Outcomes.{Manual, asked, untaken}

-- the tool speaks, whether its command takes the arguments or not
pub asked-tool_name : (tool : Manual) (args : List Text) → ((rows : List Row) → (tool.task rows).tool_name ≡ tool.name) → (asked tool args).tool_name ≡ tool.name
unfolding asked
asked-tool_name tool args speaks = by_case (is_taken tool.app args)
  where
    by_case : (taken : Bool) → (if taken then tool.task (matches_of tool.app args) else untaken tool).tool_name ≡ tool.name
    by_case true = speaks (matches_of tool.app args)
    by_case false = refl

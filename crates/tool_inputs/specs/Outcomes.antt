-- What the arguments of any tool ask for.
use Rattle.std.specs.Prelude.{◌≡◌, ℕ, true, false, List, if◌then◌else◌, Option, None, Some}
use Rattle.clap.specs.Words.{App, Row, Text, found_of, matches_of, rows_of}
use Rattle.clap.specs.declared.parser.matches.ArgMatches.{ArgMatches}
use Rattle.tool_run.specs.Tasks.{Task, helped, usage_error}
use Rattle.tool_inputs.specs.Commands.{is_taken}

-- a tool: its name, the usage line, which is told if the arguments aren't taken, its help, its command, and the task of what is found in
-- the arguments
pub record Manual : Type 0 where
  pub name : List ℕ
  pub usage : List ℕ
  pub help : List ℕ
  pub app : App
  pub task : List Row → Task

-- the task of arguments that a tool doesn't take
abbrev pub untaken : Manual → Task
untaken tool = usage_error tool.name tool.usage

-- the task of what its command finds in the arguments, if it takes them, and else the usage error
unfoldable pub asked : Manual → List Text → Task
asked tool args = if is_taken tool.app args then tool.task (matches_of tool.app args) else untaken tool

-- what the arguments of a tool ask for, which may be its help
abbrev pub outcome : Manual → List Text → Task
outcome tool args = helped tool.name tool.help args (asked tool args)

-- what its command finds in the arguments: nothing if it doesn't take them
abbrev pub Finds : Manual → List Text → Option ArgMatches → Type 0
Finds tool args None = is_taken tool.app args ≡ false
Finds tool args (Some found) = (is_taken tool.app args ≡ true) × (rows_of (found_of found) ≡ matches_of tool.app args)

-- The tools, each by the first word of the command line, and the program's own answers if the arguments name no tool.
use Rattle.std.specs.Prelude.{◌≡◌, ℕ, bytes_eq, codes, if◌then◌else◌, List, [], ◌∷◌, Option, None, Some}
use Rattle.tool_run.specs.Tasks.{Answer, Done, Refused, Task, at_once, usage_error}
use Rattle.cause_texts.specs.Explained.{explained}
use Rattle.cause_texts.specs.declared.texts.TheConstants.{WORDS}
use Rattle.bitstream_tools.specs.Bram.{icebram_outcome}
use Rattle.bitstream_tools.specs.Multi.{icemulti_outcome}
use Rattle.bitstream_tools.specs.Pack.{icepack_outcome}
use Rattle.bitstream_tools.specs.Split.{icesplit_outcome}
use Rattle.bitstream_tools.specs.Unpack.{iceunpack_outcome}
use Rattle.fabric_tools.specs.Diff.{diff_outcome}
use Rattle.fabric_tools.specs.Explain.{explain_outcome}
use Rattle.fabric_tools.specs.Plan.{plan_outcome}
use Rattle.fabric_tools.specs.Stat.{stat_outcome}
use Rattle.module_tools.specs.Vlogrun.{vlogrun_outcome}
use Rattle.module_tools.specs.Vlogsweep.{vlogsweep_outcome}
use Rattle.design_tools.specs.Vlog.{vlog_outcome}
use Rattle.selfrun_tool.specs.Selfrun.{IsSelfrunAnswer, selfrun_outcome}
use Rattle.icestorm_cli.specs.declared.tool.Tool.{Tool}
use Rattle.icestorm_cli.specs.declared.tool.Tool.TheVariants.{Icepack, Iceunpack, Icemulti, Icesplit, Icebram, IceboxExplain, IceboxDiff, IceboxStat, IceboxPlan, IceboxVlog, Vlogrun, Vlogsweep, Selfrun}
use Rattle.icestorm_cli.specs.declared.tool.TheConstants.{HELP, VERSION}

-- the tool that a word names, if it names one
unfoldable pub tool_named : List ℕ → Option Tool
tool_named word =
    if bytes_eq word (codes "icepack") then Some Icepack
    else if bytes_eq word (codes "iceunpack") then Some Iceunpack
    else if bytes_eq word (codes "icemulti") then Some Icemulti
    else if bytes_eq word (codes "icesplit") then Some Icesplit
    else if bytes_eq word (codes "icebram") then Some Icebram
    else if bytes_eq word (codes "icebox_explain") then Some IceboxExplain
    else if bytes_eq word (codes "icebox_diff") then Some IceboxDiff
    else if bytes_eq word (codes "icebox_stat") then Some IceboxStat
    else if bytes_eq word (codes "icebox_plan") then Some IceboxPlan
    else if bytes_eq word (codes "icebox_vlog") then Some IceboxVlog
    else if bytes_eq word (codes "vlogrun") then Some Vlogrun
    else if bytes_eq word (codes "vlogsweep") then Some Vlogsweep
    else if bytes_eq word (codes "selfrun") then Some Selfrun
    else None

-- the tool that the arguments name by their first word, if they name one
abbrev pub tool_of : List (List ℕ) → Option Tool
tool_of [] = None
tool_of (word ∷ args) = tool_named word

abbrev pub program_name : List ℕ
program_name = codes "icestorm"

-- the program's own arguments of one word: `--help`, `--version`, and `--explain`, which lists the causes
abbrev pub own_outcome : List ℕ → Task
own_outcome word =
    if bytes_eq word (codes "--help") then at_once program_name None (Done HELP.now)
    else if bytes_eq word (codes "--version") then at_once program_name None (Done VERSION.now)
    else if bytes_eq word (codes "--explain") then at_once program_name None (Done WORDS.now)
    else usage_error program_name (codes "TOOL ...")

-- what is told of a cause: its text, or that there is no such cause
abbrev pub told_cause : Option (List ℕ) → Answer
told_cause (Some text) = Done text
told_cause None = Refused (codes "no message has this cause: icestorm --explain lists all")

-- the program's own arguments of two words: `--explain` and a cause
abbrev pub cause_outcome : List ℕ → List ℕ → Task
cause_outcome word cause =
    if bytes_eq word (codes "--explain") then at_once program_name None (told_cause (explained cause))
    else usage_error program_name (codes "TOOL ...")

-- what arguments that name no tool ask for
unfoldable pub other_outcome : List (List ℕ) → Task
other_outcome [] = usage_error program_name (codes "TOOL ...")
other_outcome (word ∷ []) = own_outcome word
other_outcome (word ∷ next ∷ []) = cause_outcome word next
other_outcome (word ∷ next ∷ more ∷ args) = usage_error program_name (codes "TOOL ...")

-- ---- what arguments ask for

-- the task of arguments, by the tool that they name. For `selfrun` the answer is given by a relation, for the others by a function.
abbrev pub IsOutcomeOf : Option Tool → List (List ℕ) → Task → Type 0
IsOutcomeOf (Some Icepack) args task = task ≡ icepack_outcome args
IsOutcomeOf (Some Iceunpack) args task = task ≡ iceunpack_outcome args
IsOutcomeOf (Some Icemulti) args task = task ≡ icemulti_outcome args
IsOutcomeOf (Some Icesplit) args task = task ≡ icesplit_outcome args
IsOutcomeOf (Some Icebram) args task = task ≡ icebram_outcome args
IsOutcomeOf (Some IceboxExplain) args task = task ≡ explain_outcome args
IsOutcomeOf (Some IceboxDiff) args task = task ≡ diff_outcome args
IsOutcomeOf (Some IceboxStat) args task = task ≡ stat_outcome args
IsOutcomeOf (Some IceboxPlan) args task = task ≡ plan_outcome args
IsOutcomeOf (Some IceboxVlog) args task = task ≡ vlog_outcome args
IsOutcomeOf (Some Vlogrun) args task = task ≡ vlogrun_outcome args
IsOutcomeOf (Some Vlogsweep) args task = task ≡ vlogsweep_outcome args
IsOutcomeOf (Some Selfrun) args task = (answer : Answer) × IsSelfrunAnswer args answer × (task ≡ selfrun_outcome args answer)
IsOutcomeOf None args task = task ≡ other_outcome args

-- this is the task that the arguments ask for
abbrev pub IsOutcome : List (List ℕ) → Task → Type 0
IsOutcome args task = IsOutcomeOf (tool_of args) args task

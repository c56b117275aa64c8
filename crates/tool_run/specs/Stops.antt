-- Why a tool gives no bytes.
use Rattle.std.specs.Prelude.{◌≡◌}
use Rattle.tool_run.specs.Lines.{refusal_text}
use Rattle.tool_run.specs.Tasks.{Answer, UsageError as TakesNot, Refused as Refuses, Quiet as SaysNothing}
use Rattle.tool_run.specs.declared.tool.Stop.{Stop}
use Rattle.tool_run.specs.declared.tool.Stop.TheVariants.{Refused, Quiet, UsageError, Memory}

-- a tool stops with its refusal, or quietly, or with that of its command line, or out of memory
abbrev pub StopsWith : Answer → Stop → Type 0
StopsWith answer (Refused refusal) = answer ≡ Refuses (refusal_text refusal)
StopsWith answer Quiet = answer ≡ SaysNothing
StopsWith answer (UsageError refusal) = answer ≡ TakesNot (refusal_text refusal)
StopsWith answer Memory = Unit {0}

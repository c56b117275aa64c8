-- Answers that are known from the command line alone.
use Rattle.tool_run.specs.Lines.{refusal_text, usage_text}
use Rattle.tool_run.specs.Tasks.{Answer, Done, UsageError, Refused}
use Rattle.tool_run.specs.declared.at_once.AtOnce.{AtOnce}
use Rattle.tool_run.specs.declared.at_once.AtOnce.TheVariants.{Tells, Refuses, UsageError as TakesNot}

abbrev pub at_once_answer : AtOnce → Answer
at_once_answer (Tells text) = Done text.now
at_once_answer (Refuses refusal) = Refused (refusal_text refusal)
at_once_answer (TakesNot usage) = UsageError (usage_text usage.now)

-- The bytes of lines that are made while they are written.
use Rattle.std.specs.Prelude.{ℕ, List}
use Rattle.long_events.specs.Streams.{events_left}
use Rattle.long_runs.specs.declared.lines.RunLines.{RunLines}
use Rattle.long_runs.specs.Shown.{shown_text}

abbrev pub lines_in : RunLines → List ℕ
lines_in lines = shown_text lines.«module» (events_left lines.events) lines.printer.form

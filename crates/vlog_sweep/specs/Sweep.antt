-- The text of lists of events.
use Rattle.std.specs.Prelude.{ℕ, false, List, ◌++◌, fold}
use Rattle.vlog_module.specs.Parts.{Parts}
use Rattle.vlog_semantics.specs.Run.{followed, start}
use Rattle.vlog_run.specs.Text.{entry_line, run_text}
use Rattle.vlog_sweep.specs.declared.list.EventList.{EventList}

-- the heading of a list, and the text of the module's run over its events
abbrev pub list_text : Parts → EventList → List ℕ
list_text m list = list.heading.items ++ run_text m list.events.items false

-- the heading of a list, and the line of the module after all of its events; which is the line of the start if it has none
abbrev pub last_text : Parts → EventList → List ℕ
last_text m list = list.heading.items ++ entry_line false (fold (followed m) (start m) list.events.items)

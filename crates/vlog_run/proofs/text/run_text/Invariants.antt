use Rattle.std.proofs.Common.{◌≡◌, flat_map, take}
use Rattle.vlog_semantics.specs.Run.{run_from, start}
use Rattle.vlog_run.specs.Showing.{Shows}
use Rattle.vlog_run.specs.Text.{entry_line}
use Rattle.vlog_semantics.proofs.Runs.{last_entry}
use Rattle.vlog_run.proofs.text.run_text.Given as goal

abbrev pub invariant-loop-event : goal.invariant-loop-event
invariant-loop-event l = record {
  shows : Shows l.runner l.module (last_entry l.module (start l.module) (take l.event-index l.events));
  text : l.text.items ≡ flat_map (entry_line l.registers) (run_from l.module (start l.module) (take l.event-index l.events));
}
